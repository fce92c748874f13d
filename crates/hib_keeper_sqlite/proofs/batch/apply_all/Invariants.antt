use Rattle.std.proofs.Common.{◌≡◌, drop, take, IfSome}
use Rattle.hib_base.specs.Tables.{after_changes}
use Rattle.hib_outside.specs.Verdicts.{verdict}
use Rattle.hib_sqlite_rows.specs.Told.{changed}
use Rattle.hib_keeper_sqlite.proofs.batch.apply_all.Given as goal

abbrev pub invariant-loop-at : goal.invariant-loop-at
invariant-loop-at g l = record {
  told : g.T.RowTable.told l.table ≡ changed (after_changes (take l.at l.batch)) (g.T.RowTable.told l.fn.table);
  verdict : IfSome (g.T.RowTable.told l.fn.table) (λ t. verdict t.now l.batch 0 ≡ verdict (after_changes (take l.at l.batch) t.now) (drop l.at l.batch) l.at);
}
