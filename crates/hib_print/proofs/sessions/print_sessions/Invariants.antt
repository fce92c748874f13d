use Rattle.std.proofs.Common.{flat_map, take}
use Rattle.hib_print.specs.Lines.{session_lines}
use Rattle.hib_print.specs.Steps.{AddsLines}
use Rattle.hib_print.proofs.sessions.print_sessions.Given as goal

abbrev pub invariant-loop-session : goal.invariant-loop-session
invariant-loop-session l = AddsLines l.fn.printer l.printer (flat_map (λ d. session_lines l.script d) (take l.session-index l.session-items))
