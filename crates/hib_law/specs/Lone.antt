-- What is claimed of a lock of a sound read-write key that isn't shared.
use Rattle.std.specs.Prelude.{◌≡◌, ℕ, ◌≤◌, Bool, true, false, Some, Option}
use Rattle.hib_base.specs.Tables.{Tables, row_at}
use Rattle.hib_journal.specs.Types.{Key, Row, Script}
use Rattle.hib_journal.specs.Sessions.{Journal, committed}
use Rattle.hib_journal.specs.Slot.{LockState, Slot, slot}
use Rattle.hib_journal.specs.Sound.{is_sound}
use Rattle.hib_journal.specs.Coherence.{is_done, last_row}
use Rattle.hib_law.specs.Locks.{is_holder}

-- how the committed row stands to a lock of this version that one session holds: before the session's commit it has the lock's
-- version; afterwards it is the row that the session's last change left
pub record IsAlone (version : Option ℕ) (row : Option Row) (done : Bool) (last : Option Row) : Type 0 where
  pub before : done ≡ false → (v : ℕ) → version ≡ Some v → (r : Row) × (row ≡ Some r) × (r.version ≡ Some v)
  pub after : done ≡ true → (r : Row) → last ≡ Some r → row ≡ Some r

-- a lock that isn't shared has one holder at most, and nobody else has changed the committed row since it was placed
abbrev pub IsLockLone : Script → Tables → Key → Journal → Type 0
IsLockLone script start k h =
    is_sound k h ≡ true → (l : LockState) → slot script.timeout k h ≡ Slot.Lock l → l.shared ≡ false →
    (l.holders ≤ 1) × ((s : ℕ) → is_holder s k h ≡ true → IsAlone l.version (row_at (committed start h) k) (is_done s h) (last_row k s h))
