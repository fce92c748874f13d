use Rattle.std.proofs.Common.{◌≡◌, ◌++◌, drop}
use Rattle.hib_outside.specs.Keeps.{rows_of}
use Rattle.hib_outside.proofs.shelf.listed.Given as goal

abbrev pub invariant-loop-row : goal.invariant-loop-row
invariant-loop-row l = rows_of l.entities l.rows ≡ l.copy.items ++ rows_of l.entities (drop l.row-index l.rows)
