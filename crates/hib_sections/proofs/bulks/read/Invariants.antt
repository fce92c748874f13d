use Rattle.std.proofs.Common.{◌≡◌, drop, Ok}
use Rattle.hib_sections.specs.Bulks.{read_of, reading, start}
use Rattle.hib_sections.proofs.bulks.read.Given as goal

abbrev pub invariant-loop-line : goal.invariant-loop-line
invariant-loop-line l = reading l.mapping (Ok (read_of l.reading)) (drop l.line-index l.lines) ≡ reading l.mapping (Ok (start l.sessions)) l.lines
