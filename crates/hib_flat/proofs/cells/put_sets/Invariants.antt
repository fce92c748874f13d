use Rattle.std.proofs.Common.{◌≡◌, ◌++◌, take, flat_map}
use Rattle.hib_flat.specs.Members.{set_cells}
use Rattle.hib_flat.specs.Lines.{cell_member}
use Rattle.hib_flat.proofs.cells.put_sets.Given as goal

abbrev pub invariant-loop-set : goal.invariant-loop-set
invariant-loop-set l = l.out.items ≡ l.fn.out.items ++ flat_map cell_member (set_cells l.script l.entity (take l.set-index l.sets))
