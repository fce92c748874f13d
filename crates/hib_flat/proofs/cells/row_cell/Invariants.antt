use Rattle.std.proofs.Common.{◌≡◌, drop}
use Rattle.hib_flat.specs.Members.{cells_from}
use Rattle.hib_flat.specs.Lines.{cell_at}
use Rattle.hib_flat.proofs.cells.row_cell.Given as goal

abbrev pub invariant-loop-i : goal.invariant-loop-i
invariant-loop-i l = cell_at l.name (cells_from l.columns l.i (drop l.i l.row)) ≡ cell_at l.name (cells_from l.columns 0 l.row)
