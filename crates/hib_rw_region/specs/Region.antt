-- A read-write region as contracts see it.
use Rattle.std.specs.Prelude.{ℕ, nat_eq, nat_lt, List, length, Some, None, Option, option_map, if◌then◌else◌}
use Rattle.std.specs.Map.{lookup}
use Rattle.std.specs.List.{filter}
use Rattle.hib_journal.specs.Slot.{Slot}
use Rattle.hib_journal.specs.Room.{may_leave}
use Rattle.hib_soft_lock.specs.declared.slot.Slot.{Slot as Kept}
use Rattle.hib_soft_lock.specs.Shown.{shown}
use Rattle.hib_room_laws.specs.Order.{first_key}

-- slots by identifier, in order of insertion
abbrev pub Slots : Type 0
Slots = List (ℕ × Kept)

pub record RegionState : Type 0 where
  -- how many keys may have an entry
  pub capacity : ℕ
  -- for how many ticks a lock is good
  pub timeout : ℕ
  pub slots : List (ℕ × Kept)

abbrev pub shown_in : Option Kept → Slot
shown_in None = Slot.Vacant
shown_in (Some slot) = shown slot

abbrev pub kept_in : RegionState → ℕ → Option Kept
kept_in state id = lookup (nat_eq id) state.slots

-- the slot of an identifier
abbrev pub slot_in : RegionState → ℕ → Slot
slot_in state id = shown_in (kept_in state id)

-- when an item was stored; none if there is no item
abbrev pub stamp_in : Slot → Option ℕ
stamp_in (Slot.Item r t) = Some t
stamp_in _ = None

-- the first key in order that may leave
abbrev pub victim_in : ℕ → Slots → Option ℕ
victim_in floor slots = first_key (filter (λ p. may_leave floor (shown p.1)) slots)

-- the room for a new key
abbrev pub room_in : RegionState → ℕ → Option (Option ℕ)
room_in state floor = if nat_lt (length state.slots) state.capacity then Some None else option_map (λ i. Some i) (victim_in floor state.slots)
