use Rattle.std.proofs.Common.{◌≡◌, map, string_bytes}
use Rattle.hib_embed.proofs.words.lines_of.Given as goal

-- the words so far are the lines so far
abbrev pub invariant-loop-line : goal.invariant-loop-line
invariant-loop-line l = map string_bytes l.words.items ≡ map (λ s. s.now) l.yielded
