use Rattle.std.proofs.Common.{◌≡◌, ◌≤◌, length, take}
use Rattle.hib_base.specs.Tables.{last_on}
use Rattle.hib_store.proofs.written.last_change.Given as goal

-- no change from the place on is on the key
abbrev pub invariant-loop-at : goal.invariant-loop-at
invariant-loop-at l = record {
  within : l.at ≤ length l.changes;
  none : last_on l.key l.changes ≡ last_on l.key (take l.at l.changes);
}

abbrev pub decreases-loop-at : goal.decreases-loop-at
decreases-loop-at l = l.at
