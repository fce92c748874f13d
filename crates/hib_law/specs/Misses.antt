-- Why the cache does not answer, or does not take a row: each refusal has its cause in the journal before it, with its number.
use Rattle.std.specs.Prelude.{◌≡◌, ℕ, ◌≤◌, ◌⊎◌, Bool, true, false, List, ◌∷◌, ◌++◌, length, IsSome, Some, None, Option}
use Rattle.hib_journal.specs.Types.{Key, Row, Strategy, Checked, Miss, Put, Inserted, Script, Act, Reply, Entry}
use Rattle.hib_journal.specs.Sessions.{Journal}
use Rattle.hib_journal.specs.Slot.{LockState, Slot, slot, history}
use Rattle.hib_journal.specs.Room.{item, has_entry}
use Rattle.hib_journal.specs.Regions.{is_below}
use Rattle.hib_journal.specs.Stamps.{stamp, check}
use Rattle.hib_journal.specs.Results.{last_kept, others}
use Rattle.hib_journal.specs.Next.{strategy, tables_of}
use Rattle.hib_journal.specs.Legal.{room_for}

-- a read at this time misses a slot: nothing is there, an item that is too young, a lock that is held, or one that is free
abbrev pub MissesSlot : Slot → ℕ → Miss → Type 0
MissesSlot z t Miss.Absent = z ≡ Slot.Vacant
MissesSlot z t (Miss.Young stamp) = (r : Row) × (z ≡ Slot.Item r stamp) × (t ≤ stamp)
MissesSlot z t (Miss.Locked n) = (l : LockState) × (z ≡ Slot.Lock l) × (l.holders ≡ n) × (1 ≤ n)
MissesSlot z t (Miss.Released unlock) = (l : LockState) × (z ≡ Slot.Lock l) × (l.holders ≡ 0) × (l.unlock ≡ unlock)

-- and an item of a weaker region: nothing is there, or, if the strategy goes by time, one that is too young
abbrev pub MissesItem : Bool → Option (Row × ℕ) → ℕ → Miss → Type 0
MissesItem by_time i t Miss.Absent = i ≡ None
MissesItem by_time i t (Miss.Young stamp) = (by_time ≡ true) × (r : Row) × (i ≡ Some (r, stamp)) × (t ≤ stamp)
MissesItem by_time i t _ = ⊥

abbrev pub Misses : Strategy → Script → Journal → Key → ℕ → Miss → Type 0
Misses Strategy.ReadWrite script h k t m = MissesSlot (slot script.timeout k h) t m
Misses Strategy.ReadOnly script h k t m = MissesItem true (item (history k h)) t m
Misses _ script h k t m = MissesItem false (item (history k h)) t m

-- n is the first table of a query, in the mapping's order, whose stamp v is no earlier than the time
abbrev pub IsStale : Script → Journal → ℕ → ℕ → ℕ → ℕ → Type 0
IsStale script h q t n v = (before : List ℕ) × (after : List ℕ) × (tables_of script q ≡ before ++ n ∷ after)
    × (check script.timeout t before h ≡ Checked.Fresh) × (stamp script.timeout n h ≡ Some v) × (t ≤ v)

-- no list of q was kept since the restart, or so many others were used since then that it has gone
abbrev pub IsGone : Script → Journal → ℕ → Type 0
IsGone script h q = (last_kept q h ≡ None) ⊎ (script.results ≤ length (others q h))

-- a slot refuses a row of version w that was read at time t: an item that is not below it; a lock that is held; a free lock that
-- goes by the unlock time, as no version is known or it was shared; a free lock whose version is not below; or there is no room
abbrev pub SlotRefuses : Slot → Option (Option ℕ) → ℕ → Option ℕ → Put → Type 0
SlotRefuses z room t w (Put.Stored v late) = Unit {0}
SlotRefuses z room t w (Put.Present v) = (r : Row) × (stamp : ℕ) × (z ≡ Slot.Item r stamp) × (r.version ≡ v) × (is_below v w ≡ false)
SlotRefuses z room t w (Put.Held n) = (l : LockState) × (z ≡ Slot.Lock l) × (l.holders ≡ n) × (1 ≤ n) × (t ≤ l.timeout)
SlotRefuses z room t w (Put.Early unlock) = (l : LockState) × (z ≡ Slot.Lock l) × (l.holders ≡ 0) × (l.unlock ≡ unlock) × (t ≤ unlock)
    × ((l.version ≡ None) ⊎ (l.shared ≡ true))
SlotRefuses z room t w (Put.Old v) = (l : LockState) × (z ≡ Slot.Lock l) × (l.holders ≡ 0) × (l.shared ≡ false) × (l.version ≡ Some v)
    × (is_below (Some v) w ≡ false)
SlotRefuses z room t w Put.Crowded = (z ≡ Slot.Vacant) × (room ≡ None)

-- a weaker region refuses a row only if it has an item
abbrev pub ItemRefuses : Option (Row × ℕ) → Put → Type 0
ItemRefuses i (Put.Stored v late) = Unit {0}
ItemRefuses i (Put.Present v) = (r : Row) × (stamp : ℕ) × (i ≡ Some (r, stamp)) × (r.version ≡ v)
ItemRefuses i _ = ⊥

abbrev pub Refuses : Strategy → Script → Journal → Key → Row → ℕ → ℕ → Put → Type 0
Refuses Strategy.ReadWrite script h k r t f p = SlotRefuses (slot script.timeout k h) (room_for script h k f) t r.version p
Refuses _ script h k r t f p = ItemRefuses (item (history k h)) p

-- an inserted row is refused if the key has an entry already, or if there is no room for it
abbrev pub RefusesInsert : Strategy → Script → Journal → Key → ℕ → Inserted → Type 0
RefusesInsert g script h k f (Inserted.Stored v) = Unit {0}
RefusesInsert Strategy.ReadWrite script h k f Inserted.Present = has_entry (slot script.timeout k h) ≡ true
RefusesInsert Strategy.ReadWrite script h k f Inserted.Crowded = (slot script.timeout k h ≡ Slot.Vacant) × (room_for script h k f ≡ None)
RefusesInsert _ script h k f Inserted.Present = IsSome (item (history k h))
RefusesInsert _ script h k f Inserted.Crowded = ⊥

-- the cause of each kind of refusal, over the journal before it
pub record HasCause (script : Script) (h : Journal) (e : Entry) : Type 0 where
  pub get : (k : Key) (t : ℕ) (m : Miss) → e.act ≡ Act.Get k t → e.reply ≡ Reply.Miss m → Misses (strategy script k.entity) script h k t m
  pub check : (q t n v : ℕ) → e.act ≡ Act.Check q t → e.reply ≡ Reply.Check (Checked.Stale n v) → IsStale script h q t n v
  pub look : (q : ℕ) → e.act ≡ Act.Look q → e.reply ≡ Reply.Absent → IsGone script h q
  pub put : (k : Key) (r : Row) (t f : ℕ) (p : Put) → e.act ≡ Act.Put k r t f → e.reply ≡ Reply.Put p → Refuses (strategy script k.entity) script h k r t f p
  pub insert : (k : Key) (r : Row) (f : ℕ) (i : Inserted) → e.act ≡ Act.AfterInsert k r f → e.reply ≡ Reply.Inserted i →
      RefusesInsert (strategy script k.entity) script h k f i
