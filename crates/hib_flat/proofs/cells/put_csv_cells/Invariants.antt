use Rattle.std.proofs.Common.{◌≡◌, ◌++◌, take}
use Rattle.hib_flat.specs.Members.{cells}
use Rattle.hib_flat.specs.Lines.{csv_cells}
use Rattle.hib_flat.proofs.cells.put_csv_cells.Given as goal

abbrev pub invariant-loop-name : goal.invariant-loop-name
invariant-loop-name l = l.out.items ≡ l.fn.out.items ++ csv_cells (take l.name-index l.names) (cells l.script l.entry)
