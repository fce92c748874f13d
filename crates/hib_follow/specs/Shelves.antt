-- What is kept of keys, and what it stands for. A row is known by the place, among all entries, of the one that stored it.
use Rattle.std.specs.Prelude.{◌≡◌, ℕ, Bool, true, false, List, slice_get, Some, None, Option, option_and_then}
use Rattle.std.specs.Option.{option_map_or}
use Rattle.std.specs.Map.{lookup}
use Rattle.hib_base.specs.Keys.{same_key}
use Rattle.hib_journal.specs.Types.{Key, Row, Act, Entry, Script}
use Rattle.hib_journal.specs.Sessions.{Journal}
use Rattle.hib_journal.specs.Slot.{Slot}
use Rattle.hib_follow.specs.Cached.{cached}
use Rattle.hib_follow.specs.Newest.{last_touch}
use Rattle.hib_follow.specs.declared.kept.Kept.{Kept}
use Rattle.hib_follow.specs.declared.shelf.Shelved.{Shelved}

abbrev pub Shelves : Type 0
Shelves = List (Key × Shelved)

-- the row that an act may store
abbrev pub row_stored : Act → Option Row
row_stored (Act.Put k r t f) = Some r
row_stored (Act.AfterInsert k r f) = Some r
row_stored (Act.AfterUpdate k i r) = Some r
row_stored _ = None

-- the row and the tick of the entry at a place
abbrev pub row_from : List Entry → ℕ → Option Row
row_from es n = option_and_then (λ (e : Entry). row_stored e.act) (slice_get es n)

abbrev pub tick_from : List Entry → ℕ → ℕ
tick_from es n = option_map_or (λ (e : Entry). e.tick) (slice_get es n) 0

abbrev pub item_of : Option Row → ℕ → Slot
item_of None now = Slot.Vacant
item_of (Some r) now = Slot.Item r now

abbrev pub kept_slot : List Entry → Kept → Slot
kept_slot es Kept.Nothing = Slot.Vacant
kept_slot es (Kept.Item n) = item_of (row_from es n) (tick_from es n)
kept_slot es (Kept.Lock i v t n x u) = Slot.Lock (record { id = i; version = v; timeout = t; holders = n; shared = x; unlock = u })

abbrev pub is_item : Kept → Bool
is_item (Kept.Item n) = true
is_item _ = false

abbrev pub shelved_kept : Option Shelved → Kept
shelved_kept None = Kept.Nothing
shelved_kept (Some s) = s.kept

abbrev pub shelved_since : Option Shelved → Option ℕ
shelved_since None = None
shelved_since (Some s) = Some s.since

abbrev pub kept_at : Shelves → Key → Kept
kept_at m k = shelved_kept (lookup (same_key k) m)

abbrev pub since_at : Shelves → Key → Option ℕ
since_at m k = shelved_since (lookup (same_key k) m)

-- what is kept stands for a journal of some of these entries
pub record AreShelves (script : Script) (es : List Entry) (h : Journal) (m : Shelves) : Type 0 where
  pub slots : (k : Key) → kept_slot es (kept_at m k) ≡ cached script k h
  pub since : (k : Key) → since_at m k ≡ last_touch k h
