use Rattle.std.proofs.Common.{◌≡◌, ◌++◌, drop}
use Rattle.hib_sqlite_rows.specs.Body.{packed, packed_cells}
use Rattle.hib_sqlite_rows.proofs.body.pack.Given as goal

abbrev pub invariant-loop-at : goal.invariant-loop-at
invariant-loop-at l = l.bytes.items ++ packed_cells (drop l.at l.cells) ≡ packed l.cells
