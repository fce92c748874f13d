use Rattle.std.proofs.Common.{◌≡◌, ◌-◌, length, option_copied}
use Rattle.hib_base.specs.Tables.{Tables, row_at, key_of, after_change}
use Rattle.hib_query_eval.specs.Places.{AreIndexes}
use Rattle.hib_query_eval.proofs.Indexes.{IndexUpTo}
use Rattle.hib_query_eval.proofs.columns.lay_over_all.Given as goal

-- the change is laid over the columns so far
abbrev pub invariant-loop-at : goal.invariant-loop-at
invariant-loop-at l =
    (t : Tables) → option_copied l.found ≡ row_at t (key_of l.change) → AreIndexes l.fn.columns.items t → IndexUpTo l.columns.items l.at t (after_change l.change t)

abbrev pub decreases-loop-at : goal.decreases-loop-at
decreases-loop-at l = length l.columns.items - l.at
