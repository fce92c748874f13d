use Rattle.std.proofs.Common.{◌-◌, ◌≤◌, length}
use Rattle.hib_outside.proofs.keyed.likely_place.Given as goal

-- a place between the two ends is one of the rows'
abbrev pub invariant-loop-from : goal.invariant-loop-from
invariant-loop-from l = record {
  order : l.from ≤ l.to;
  within : l.to ≤ length l.rows;
}

abbrev pub decreases-loop-from : goal.decreases-loop-from
decreases-loop-from l = l.to - l.from
