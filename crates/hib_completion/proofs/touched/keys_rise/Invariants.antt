use Rattle.std.proofs.Common.{◌≡◌, ◌-◌, ◌≤◌, true, length, drop}
use Rattle.hib_completion.specs.Touched.{rise}
use Rattle.hib_completion.proofs.touched.keys_rise.Given as goal

-- the keys from the place on rise
abbrev pub invariant-loop-from : goal.invariant-loop-from
invariant-loop-from l = record {
  within : l.from ≤ length l.changes - 1;
  rising : rise (drop l.from l.changes) ≡ true;
}

abbrev pub decreases-loop-from : goal.decreases-loop-from
decreases-loop-from l = l.from
