-- That a region's slots are those that a journal gives it.
use Rattle.std.specs.Prelude.{◌≡◌, ◌≤◌, ℕ, suc, [], ◌∷◌, None, Option}
use Rattle.hib_journal.specs.Sessions.{Journal}
use Rattle.hib_journal.specs.Slot.{Touch, History, Slot, history, slot, slot_from}
use Rattle.hib_journal.specs.Room.{key, place}
use Rattle.hib_soft_lock.specs.Steps.{holders_in}
use Rattle.hib_room_laws.specs.Order.{IsInOrder, IsUpTo}
use Rattle.hib_room_laws.specs.Elsewhere.{last_of}
use Rattle.hib_rw_region.specs.Region.{RegionState, kept_in, slot_in}

-- since when an identifier has a slot in the region of entity n
abbrev pub place_of : ℕ → Journal → ℕ → Option ℕ
place_of n h id = place (history (key n id) h)

-- a release is of a lock with one holder more than it leaves
abbrev pub IsOfHeld : Touch → Slot → Type 0
IsOfHeld (Touch.Releases n) (Slot.Lock l) = l.holders ≡ suc n
IsOfHeld (Touch.Releases n) s = ⊥
IsOfHeld _ s = Unit {0}

-- each release since the restart was of a held lock
abbrev pub AreOfHeld : ℕ → History → Type 0
AreOfHeld timeout [] = Unit {0}
AreOfHeld timeout ((t, now) ∷ s) = IsOfHeld t (slot_from timeout s) × AreOfHeld timeout s

pub record IsRegion (state : RegionState) (n : ℕ) (h : Journal) : Type 0 where
  -- each identifier has the slot that the journal gives it
  pub same : (id : ℕ) → slot_in state id ≡ slot state.timeout (key n id) h
  pub held : (id : ℕ) → AreOfHeld state.timeout (history (key n id) h)
  -- the list is in the order in which keys got their slots
  pub order : IsInOrder (place_of n h) state.slots
  pub placed : (id : ℕ) → kept_in state id ≡ None → place_of n h id ≡ None
  -- nothing is younger than the region's last entry, and no lock has more holders than that has ticks
  pub before : (id : ℕ) → IsUpTo (last_of n h) (place_of n h id)
  pub few : (id : ℕ) → holders_in (slot_in state id) ≤ last_of n h
