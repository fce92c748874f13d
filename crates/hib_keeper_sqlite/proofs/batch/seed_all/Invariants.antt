use Rattle.std.proofs.Common.{◌≡◌, take}
use Rattle.hib_base.specs.Tables.{with_absent}
use Rattle.hib_sqlite_rows.specs.Told.{changed}
use Rattle.hib_keeper_sqlite.proofs.batch.seed_all.Given as goal

abbrev pub invariant-loop-at : goal.invariant-loop-at
invariant-loop-at g l = g.T.RowTable.told l.table ≡ changed (λ t. with_absent t (take l.at l.rows)) (g.T.RowTable.told l.fn.table)
