use Rattle.std.proofs.Common.{◌≡◌, map, take}
use Rattle.hib_bulk_law.specs.Rows.{row_after, change_to}
use Rattle.hib_bulk.proofs.changing.changes_of.Given as goal

-- the changes of the rows so far
abbrev pub invariant-loop-row : goal.invariant-loop-row
invariant-loop-row l = l.changes ≡ map (λ p. change_to (row_after l.line.change p.now.1) p.now.0 p.now.1.version) (take l.row-index l.rows)
