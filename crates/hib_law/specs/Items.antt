-- What is claimed of the items of keys that need not be sound, and of the weaker regions.
use Rattle.std.specs.Prelude.{◌≡◌, ℕ, ◌⊎◌, [], ◌∷◌, Some, IsSomeAnd}
use Rattle.std.specs.List.{IsAmong}
use Rattle.hib_journal.specs.Types.{Key, Row, Change, Script}
use Rattle.hib_base.specs.Tables.{Tables, row_at}
use Rattle.hib_journal.specs.Sessions.{Journal, changes, committer}
use Rattle.hib_journal.specs.Slot.{Slot, slot, history}
use Rattle.hib_journal.specs.Room.{item}
use Rattle.hib_law.specs.Rows.{WasCommitted}

-- the item of any key, sound or not, of a read-write region and of any other, is a row that was committed since the restart
pub record IsItemOld (script : Script) (start : Tables) (k : Key) (h : Journal) : Type 0 where
  pub slot : (r : Row) (t : ℕ) → slot script.timeout k h ≡ Slot.Item r t → WasCommitted start k r h
  pub item : (r : Row) (t : ℕ) → item (history k h) ≡ Some (r, t) → WasCommitted start k r h

-- the rows at the start or a Committed Insert gave row r to k
abbrev pub WasGiven : Tables → Key → Row → Journal → Type 0
WasGiven start k r [] = row_at start k ≡ Some r
WasGiven start k r (e ∷ h) = IsSomeAnd (committer e.act e.reply e.session) (λ s. IsAmong (changes s h) (Change.Insert k r)) ⊎ WasGiven start k r h

-- the item of a key of a read-only region is the row that it was given
abbrev pub IsItemGiven : Tables → Key → Journal → Type 0
IsItemGiven start k h = (r : Row) (t : ℕ) → item (history k h) ≡ Some (r, t) → WasGiven start k r h
