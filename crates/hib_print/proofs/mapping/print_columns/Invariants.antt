use Rattle.std.proofs.Common.{map, take}
use Rattle.hib_print.specs.Lines.{column_line}
use Rattle.hib_print.specs.Steps.{AddsLines}
use Rattle.hib_print.proofs.mapping.print_columns.Given as goal

abbrev pub invariant-loop-column : goal.invariant-loop-column
invariant-loop-column l = AddsLines l.fn.printer l.printer (map (λ d. column_line l.script d) (take l.column-index l.columns))
