use Rattle.std.proofs.Common.{◌≡◌, ◌≤◌, ◌<◌, ◌-◌, ℕ, true, false, length, get_or}
use Rattle.hib_traces.specs.Making.{is_ready}
use Rattle.hib_traces.specs.declared.places.Place.{Place}
use Rattle.hib_traces.proofs.standing.count_ready.Given as goal

abbrev pub invariant-loop-low : goal.invariant-loop-low
invariant-loop-low l = record {
  low : l.low ≤ l.high;
  high : l.high ≤ length l.places;
  ready : (k : ℕ) (d : Place) → k < l.low → is_ready l.row l.end (get_or l.places k d) ≡ true;
  late : (k : ℕ) (d : Place) → l.high ≤ k → k < length l.places → is_ready l.row l.end (get_or l.places k d) ≡ false;
}

abbrev pub decreases-loop-low : goal.decreases-loop-low
decreases-loop-low l = l.high - l.low
