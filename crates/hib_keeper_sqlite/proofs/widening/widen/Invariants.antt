use Rattle.std.proofs.Common.{◌≡◌}
use Rattle.hib_sqlite_rows.specs.Told.{changed}
use Rattle.hib_keeper_sqlite.specs.Widening.{widened_below}
use Rattle.hib_keeper_sqlite.proofs.widening.widen.Given as goal

abbrev pub invariant-loop-at : goal.invariant-loop-at
invariant-loop-at g l = g.T.RowTable.told l.table ≡ changed (widened_below l.at l.mapping) (g.T.RowTable.told l.fn.table)
