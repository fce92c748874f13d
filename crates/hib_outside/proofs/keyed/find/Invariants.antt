use Rattle.std.proofs.Common.{◌≡◌, ◌-◌, ◌≤◌, length, take, drop}
use Rattle.hib_outside.specs.Places.{place_in}
use Rattle.hib_outside.proofs.Places.{further}
use Rattle.hib_outside.proofs.keyed.find.Given as goal

-- the place among the rows from `low` on gives the place among all, and so does the place among those before `high`
abbrev pub invariant-loop-low : goal.invariant-loop-low
invariant-loop-low l = record {
  order : l.low ≤ l.high;
  within : l.high ≤ length l.rows;
  behind : place_in l.rows l.key ≡ further l.low (place_in (drop l.low l.rows) l.key);
  ahead : place_in l.rows l.key ≡ place_in (take l.high l.rows) l.key;
}

abbrev pub decreases-loop-low : goal.decreases-loop-low
decreases-loop-low l = l.high - l.low
