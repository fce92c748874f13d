use Rattle.std.proofs.Common.{map, take}
use Rattle.hib_print.specs.Lines.{statement_line}
use Rattle.hib_print.specs.Steps.{AddsLines}
use Rattle.hib_print.proofs.sessions.print_statements.Given as goal

abbrev pub invariant-loop-statement : goal.invariant-loop-statement
invariant-loop-statement l = AddsLines l.fn.printer l.printer (map (λ t. statement_line l.script t) (take l.statement-index l.statements))
