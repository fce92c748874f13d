use Rattle.std.proofs.Common.{◌≡◌, true, drop}
use Rattle.hib_base.specs.Tables.{in_order, after_changes, commit_answer}
use Rattle.hib_query_eval.specs.Places.{AreIndexes}
use Rattle.hib_query_eval.proofs.index.Index.apply.Given as goal

-- the rest of the changes is left to do, and decides
abbrev pub invariant-loop-change : goal.invariant-loop-change
invariant-loop-change l = record {
  ordered : in_order l.rows.items ≡ true;
  indexed : AreIndexes l.columns.items l.rows.items;
  left : after_changes l.changes l.fn.self ≡ after_changes (drop l.change-index l.changes) l.rows.items;
  decides : commit_answer l.changes l.fn.self ≡ commit_answer (drop l.change-index l.changes) l.rows.items;
}
