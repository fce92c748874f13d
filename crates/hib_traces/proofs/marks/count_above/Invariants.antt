use Rattle.std.proofs.Common.{◌≤◌, ◌<◌, ◌-◌, ℕ, length, get_or}
use Rattle.hib_traces.specs.declared.marks.Mark.{Mark}
use Rattle.hib_traces.proofs.marks.count_above.Given as goal

abbrev pub invariant-loop-low : goal.invariant-loop-low
invariant-loop-low l = record {
  low : l.low ≤ l.high;
  high : l.high ≤ length l.steps;
  above : (k : ℕ) (d : Mark) → k < l.low → l.limit ≤ (get_or l.steps k d).value;
  below : (k : ℕ) (d : Mark) → l.high ≤ k → k < length l.steps → (get_or l.steps k d).value < l.limit;
}

abbrev pub decreases-loop-low : goal.decreases-loop-low
decreases-loop-low l = l.high - l.low
