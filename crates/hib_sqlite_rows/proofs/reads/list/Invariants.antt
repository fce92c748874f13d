use Rattle.std.proofs.Common.{◌≡◌, ◌++◌, drop, IfSome}
use Rattle.hib_outside.specs.Keeps.{rows_of}
use Rattle.hib_sqlite_rows.proofs.reads.list.Given as goal

abbrev pub invariant-loop-number : goal.invariant-loop-number
invariant-loop-number g l = record {
  same : g.T.RowTable.told l.table ≡ g.T.RowTable.told l.fn.table;
  list : IfSome (g.T.RowTable.told l.fn.table) (λ t. rows_of l.number-items t.now ≡ l.list.items ++ rows_of (drop l.number-index l.number-items) t.now);
}
