use Rattle.std.proofs.Common.{◌≡◌, ◌++◌, drop, flat_map}
use Rattle.hib_flat.specs.Members.{cells_from}
use Rattle.hib_flat.specs.Lines.{cell_member}
use Rattle.hib_flat.proofs.cells.put_row.Given as goal

abbrev pub invariant-loop-i : goal.invariant-loop-i
invariant-loop-i l = l.out.items ++ flat_map cell_member (cells_from l.columns l.i (drop l.i l.row)) ≡ l.fn.out.items ++ flat_map cell_member (cells_from l.columns 0 l.row)
