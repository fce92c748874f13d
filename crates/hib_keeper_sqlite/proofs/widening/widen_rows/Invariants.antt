use Rattle.std.proofs.Common.{◌≡◌, take, true, IfSome}
use Rattle.hib_sqlite_rows.specs.Told.{changed}
use Rattle.hib_keeper_sqlite.specs.Widening.{with_all_wide, are_there}
use Rattle.hib_keeper_sqlite.proofs.widening.widen_rows.Given as goal

abbrev pub invariant-loop-at : goal.invariant-loop-at
invariant-loop-at g l = record {
  told : g.T.RowTable.told l.table ≡ changed (λ t. with_all_wide l.columns t (take l.at l.rows)) (g.T.RowTable.told l.fn.table);
  there : IfSome (g.T.RowTable.told l.table) (λ t. are_there l.rows t.now ≡ true);
}
