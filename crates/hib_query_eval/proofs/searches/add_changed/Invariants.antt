use Rattle.std.proofs.Common.{◌≡◌, ℕ, true, take}
use Rattle.hib_journal.specs.Room.{key}
use Rattle.hib_query_eval.specs.Places.{has_id}
use Rattle.hib_query_eval.specs.Views.{is_changed}
use Rattle.hib_query_eval.proofs.searches.add_changed.Given as goal

-- the identifiers that were there, and those of the changes so far
abbrev pub invariant-loop-change : goal.invariant-loop-change
invariant-loop-change l = record {
  kept : (i : ℕ) → has_id i l.fn.ids.items ≡ true → has_id i l.ids.items ≡ true;
  changed : (i : ℕ) → is_changed (key l.entity i) (take l.change-index l.changes) ≡ true → has_id i l.ids.items ≡ true;
}
