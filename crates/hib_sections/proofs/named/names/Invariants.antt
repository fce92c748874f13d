use Rattle.std.proofs.Common.{◌≡◌, take}
use Rattle.hib_sections.specs.Sections.{names}
use Rattle.hib_sections.proofs.named.names.Given as goal

abbrev pub invariant-loop-session : goal.invariant-loop-session
invariant-loop-session l = l.named ≡ names (take l.session-index l.sessions)
