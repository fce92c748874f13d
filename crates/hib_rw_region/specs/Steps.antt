-- What each call leaves of a read-write region.
use Rattle.std.specs.Prelude.{ℕ, ◌+◌, false, nat_eq, [], Some, None, Option}
use Rattle.std.specs.Map.{lookup, remove_entry}
use Rattle.indexmap.specs.IndexMap.{insert_entry}
use Rattle.hib_journal.specs.Types.{Row, Put, Unlocked, Inserted, Updated, Evicted}
use Rattle.hib_journal.specs.Regions as Regions
use Rattle.hib_soft_lock.specs.declared.slot.Slot.{Slot as Kept}
use Rattle.hib_soft_lock.specs.Steps.{new_lock, locked, released}
use Rattle.hib_rw_region.specs.Region.{Slots, RegionState, kept_in, slot_in, room_in}

abbrev pub empty : ℕ → ℕ → RegionState
empty capacity timeout = record { capacity = capacity; timeout = timeout; slots = [] }

-- a key that has a slot keeps its place, and a new one comes last
abbrev pub with_slot : ℕ → Kept → RegionState → RegionState
with_slot id slot state = record state { slots = insert_entry nat_eq state.slots id slot }

abbrev pub left : Option ℕ → Slots → Slots
left None slots = slots
left (Some id) slots = remove_entry (nat_eq id) slots

-- the one that leaves is gone; the others keep their order
abbrev pub without : Option ℕ → RegionState → RegionState
without evicted state = record state { slots = left evicted state.slots }

-- the slots with another at a key, if there is one
abbrev pub changed_by : ℕ → (Kept → Kept) → Slots → Option Kept → Slots
changed_by id change slots None = slots
changed_by id change slots (Some slot) = insert_entry nat_eq slots id (change slot)

abbrev pub changed : ℕ → (Kept → Kept) → Slots → Slots
changed id change slots = changed_by id change slots (lookup (nat_eq id) slots)

abbrev pub with_release : ℕ → ℕ → RegionState → RegionState
with_release id now state = record state { slots = changed id (released now) state.slots }

-- a lock that nobody holds, after a holder whose lock had expired, and after an eviction
abbrev pub barred : ℕ → ℕ → Kept
barred now until = Kept.Lock now None until 0 false until

-- a new item, if there is room
abbrev pub new_item : ℕ → Row → ℕ → Option (Option ℕ) → RegionState → RegionState
new_item id row now None state = state
new_item id row now (Some evicted) state = with_slot id (Kept.Item row now) (without evicted state)

abbrev pub put_leaves : ℕ → Row → ℕ → Put → RegionState → RegionState
put_leaves id row now (Put.Stored evicted late) state = with_slot id (Kept.Item row now) (without evicted state)
put_leaves id row now _ state = state

abbrev pub after_put : ℕ → Row → ℕ → ℕ → ℕ → RegionState → RegionState
after_put id row time floor now state =
    put_leaves id row now (Regions.put (slot_in state id) (room_in state floor) time row.version) state

abbrev pub insert_leaves : ℕ → Row → ℕ → Inserted → RegionState → RegionState
insert_leaves id row now (Inserted.Stored evicted) state = with_slot id (Kept.Item row now) (without evicted state)
insert_leaves id row now _ state = state

abbrev pub after_insert : ℕ → Row → ℕ → ℕ → RegionState → RegionState
after_insert id row floor now state = insert_leaves id row now (Regions.after_insert (slot_in state id) (room_in state floor)) state

-- a lock on a key that has no slot, or has one
abbrev pub locked_by : ℕ → Option ℕ → ℕ → Option Kept → Kept
locked_by timeout version now None = new_lock timeout version now
locked_by timeout version now (Some slot) = locked timeout now slot

abbrev pub after_lock : ℕ → Option ℕ → ℕ → ℕ → RegionState → RegionState
after_lock id version floor now state =
    with_slot id (locked_by state.timeout version now (kept_in state id))
    (without (Regions.lock state.timeout (slot_in state id) (room_in state floor) now).evicted state)

abbrev pub unlock_leaves : ℕ → ℕ → Unlocked → RegionState → RegionState
unlock_leaves id now (Unlocked.Released holders) state = with_release id now state
unlock_leaves id now Unlocked.Expired state = with_slot id (barred now (now + state.timeout)) state

abbrev pub after_unlock : ℕ → ℕ → ℕ → RegionState → RegionState
after_unlock id lock now state = unlock_leaves id now (Regions.unlock (slot_in state id) lock) state

abbrev pub update_leaves : ℕ → Row → ℕ → Updated → RegionState → RegionState
update_leaves id row now Updated.Stored state = with_slot id (Kept.Item row now) state
update_leaves id row now (Updated.Shared holders) state = with_release id now state
update_leaves id row now Updated.Expired state = with_slot id (barred now (now + state.timeout)) state

abbrev pub after_update : ℕ → ℕ → Row → ℕ → RegionState → RegionState
after_update id lock row now state = update_leaves id row now (Regions.after_update (slot_in state id) lock) state

abbrev pub evict_leaves : ℕ → ℕ → Evicted → Slots → Slots
evict_leaves id now Evicted.Gone slots = insert_entry nat_eq slots id (barred now now)
evict_leaves id now _ slots = slots

abbrev pub after_evict : ℕ → ℕ → RegionState → RegionState
after_evict id now state = record state { slots = evict_leaves id now (Regions.evict (slot_in state id)) state.slots }

abbrev pub after_clear : RegionState → RegionState
after_clear state = record state { slots = [] }
