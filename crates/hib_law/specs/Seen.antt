-- What is claimed of the rows that open sessions have seen, and of their floors. Everything else that the law says of a read-write
-- key follows from the first.
use Rattle.std.specs.Prelude.{◌≡◌, ℕ, ◌<◌, ◌≤◌, ◌⊎◌, true, false, Some, Option}
use Rattle.hib_base.specs.Tables.{Tables, row_at}
use Rattle.hib_journal.specs.Types.{Key, Row, Script}
use Rattle.hib_journal.specs.Sessions.{Journal, own, is_open, time, floor_in, committed}
use Rattle.hib_journal.specs.Slot.{Slot, slot}
use Rattle.hib_journal.specs.Regions.{is_below}
use Rattle.hib_journal.specs.Sound.{is_sound}
use Rattle.hib_journal.specs.Coherence.{Seen}

-- what a key's slot says to a session of this time: that a put of an older row will be refused
abbrev pub IsGuarded : ℕ → Slot → Type 0
IsGuarded t Slot.Vacant = ⊥
IsGuarded t (Slot.Item r stamp) = t < stamp
IsGuarded t (Slot.Lock l) = (0 < l.holders) ⊎ (t < l.unlock)

-- an item's version is not below w, nor is that of a lock that is not shared
abbrev pub IsNotBelow : Option ℕ → Slot → Type 0
IsNotBelow w Slot.Vacant = Unit {0}
IsNotBelow w (Slot.Item r stamp) = is_below r.version w ≡ false
IsNotBelow w (Slot.Lock l) = l.shared ≡ false → is_below l.version w ≡ false

-- each row of a sound key that an open session has seen is committed still, or a put of it will be refused
abbrev pub AreSeenSafe : Script → Tables → Key → Journal → Type 0
AreSeenSafe script start k h =
    is_sound k h ≡ true → (s : ℕ) (b : Row) → is_open s h ≡ true → Seen start k s b h
    → (row_at (committed start h) k ≡ Some b) ⊎ (IsGuarded (time s h) (slot script.timeout k h) × IsNotBelow b.version (slot script.timeout k h))

-- the floor that an open session was told is no later than the time of any open session
abbrev pub AreFloorsLow : Journal → Type 0
AreFloorsLow h = (s u : ℕ) → is_open s h ≡ true → is_open u h ≡ true → floor_in (own s h) ≤ time u h
