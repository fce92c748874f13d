use Rattle.std.proofs.Common.{◌≡◌}
use Rattle.hib_rw_region.specs.Region.{victim_in}
use Rattle.hib_rw_region.proofs.slots.victim.Given as goal

-- none of the slots so far may leave
abbrev pub invariant-loop-id : goal.invariant-loop-id
invariant-loop-id l = victim_in l.floor l.slots.entries ≡ victim_in l.floor l.id-iterator
