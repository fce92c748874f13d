use Rattle.std.proofs.Common.{◌≡◌, ◌≤◌, length, reverse, take}
use Rattle.hib_rw_region.specs.Region.{victim_in}
use Rattle.hib_rw_region.proofs.slots.last_victim.Given as goal

-- none of the slots from the place on may leave
abbrev pub invariant-loop-at : goal.invariant-loop-at
invariant-loop-at l = record {
  within : l.at ≤ length l.slots.entries;
  none : victim_in l.floor (reverse l.slots.entries) ≡ victim_in l.floor (reverse (take l.at l.slots.entries));
}

abbrev pub decreases-loop-at : goal.decreases-loop-at
decreases-loop-at l = l.at
