use Rattle.std.proofs.Common.{◌≡◌, ◌++◌, ◌≤◌, ◌+◌, ◌-◌, length, map, drop}
use Rattle.std.specs.List.{filter}
use Rattle.hib_query_eval.specs.Enough.{first_of, is_listed}
use Rattle.hib_query_eval.specs.Views.{has_changed, laid_over}
use Rattle.hib_query_eval.proofs.searches.walked.Given as goal

-- what is met, and what is listed of the rest, is what is listed of all
abbrev pub invariant-loop-at : goal.invariant-loop-at
invariant-loop-at l = record {
  at_within : l.at ≤ length l.rows;
  behind_within : l.behind ≤ length l.left;
  fits : first_of l.most (map (λ r. r.now) l.met.items) ≡ map (λ r. r.now) l.met.items;
  done : filter (is_listed l.query l.view) (laid_over (has_changed l.laid) l.rows l.left)
      ≡ map (λ r. r.now) l.met.items ++ filter (is_listed l.query l.view) (laid_over (has_changed l.laid) (drop l.at l.rows) (drop l.behind l.left));
}

abbrev pub decreases-loop-at : goal.decreases-loop-at
decreases-loop-at l = (length l.rows - l.at) + (length l.left - l.behind)
