use Rattle.std.proofs.Common.{◌≡◌, true, take}
use Rattle.hib_base.specs.Tables.{after_changes, in_order}
use Rattle.hib_order_judge.specs.Dossiers.{changes_at}
use Rattle.hib_order_judge.proofs.laying.lay_all.Given as goal

abbrev pub invariant-loop-change : goal.invariant-loop-change
invariant-loop-change l = record {
  rows : l.rows.items ≡ after_changes (changes_at (take l.change-index l.changes)) l.fn.rows;
  ordered : in_order l.rows.items ≡ true;
}
