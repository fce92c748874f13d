use Rattle.std.proofs.Common.{take}
use Rattle.hib_print.specs.Lines.{cell_tokens}
use Rattle.hib_print.specs.Steps.{Adds}
use Rattle.hib_print.proofs.printer.Printer.cells.Given as goal

abbrev pub invariant-loop-cell : goal.invariant-loop-cell
invariant-loop-cell l = Adds l.fn.self l.self (cell_tokens (take l.cell-index l.cells))
