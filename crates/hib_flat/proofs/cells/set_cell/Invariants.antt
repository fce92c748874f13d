use Rattle.std.proofs.Common.{◌≡◌, drop}
use Rattle.hib_flat.specs.Members.{set_cells}
use Rattle.hib_flat.specs.Lines.{cell_at}
use Rattle.hib_flat.proofs.cells.set_cell.Given as goal

abbrev pub invariant-loop-set : goal.invariant-loop-set
invariant-loop-set l = cell_at l.name (set_cells l.script l.entity (drop l.set-index l.sets)) ≡ cell_at l.name (set_cells l.script l.entity l.sets)
