-- What a read-write region answers is the reply that is due.
use Rattle.std.proofs.Common.{◌≡◌, ℕ, ap, ◌∙◌}
use Rattle.hib_journal.specs.Types.{Key, Script}
use Rattle.hib_journal.specs.Sessions.{Journal}
use Rattle.hib_journal.specs.Slot.{slot}
use Rattle.hib_journal.specs.Legal.{room_for}
use Rattle.hib_rw_region.specs.Region.{RegionState, slot_in, room_in}
use Rattle.hib_rw_region.specs.Laws.{IsOfScript, Gets, Puts, Locks, Unlocks, Updates, Inserts, Evicts}
use Rattle.hib_rw_region.proofs.Victims.{room_is}

module _ (script : Script) (state : RegionState) (k : Key) (h : Journal) (of : IsOfScript script state k h) where
  slot_due : slot_in state k.id ≡ slot script.timeout k h
  slot_due = of.stands.same k.id ∙ ap (λ t. slot t k h) of.timeout

  room_due : (floor : ℕ) → room_in state floor ≡ room_for script h k floor
  room_due floor = room_is state k.entity h of.stands floor ∙ rw (of.timeout, of.capacity)

pub gets : Gets
gets script start h s now state k time of = rw (of.strategy, slot_due script state k h of)

pub puts : Puts
puts script start h s now state k row time floor of = rw (of.strategy, slot_due script state k h of, room_due script state k h of floor)

pub locks : Locks
locks script start h s now state k version floor of = rw (slot_due script state k h of, room_due script state k h of floor, of.timeout)

pub unlocks : Unlocks
unlocks script start h s now state k lock of = rw (slot_due script state k h of)

pub updates : Updates
updates script start h s now state k lock row of = rw (slot_due script state k h of)

pub inserts : Inserts
inserts script start h s now state k row floor of = rw (of.strategy, slot_due script state k h of, room_due script state k h of floor)

pub evicts : Evicts
evicts script start h s now state k of = rw (of.strategy, slot_due script state k h of)
