use Rattle.std.proofs.Common.{◌<◌, length, arith}
use Rattle.hib_print.specs.Lines.{cell_token}
use Rattle.hib_print.proofs.Added.{adds_mapped}
use Rattle.hib_print.proofs.printer.Printer.cells.Goals as goal

pub loop-cell-preserved : goal.loop-cell-preserved
loop-cell-preserved c =
    let low : c.loop-cell.cell-index < length c.args.cells.now = omega arith in
    adds_mapped cell_token c.args.cells.now c.loop-cell.cell-index c.cell-item.result low c.cell-item.is c.loop-cell.invariant c.in_ok-cell.ensures
