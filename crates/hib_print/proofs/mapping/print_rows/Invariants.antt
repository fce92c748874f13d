use Rattle.std.proofs.Common.{map, take}
use Rattle.hib_print.specs.Lines.{row_line}
use Rattle.hib_print.specs.Steps.{AddsLines}
use Rattle.hib_print.proofs.mapping.print_rows.Given as goal

abbrev pub invariant-loop-row : goal.invariant-loop-row
invariant-loop-row l = AddsLines l.fn.printer l.printer (map (λ x. row_line l.script x) (take l.row-index l.row-items))
