-- What is claimed of the locks of a sound read-write key.
use Rattle.std.specs.Prelude.{◌≡◌, ℕ, suc, ◌⊎◌, Bool, true, ◌==◌, length, Some}
use Rattle.std.specs.List.{list_any}
use Rattle.hib_journal.specs.Types.{Key, Row, Unlocked, Updated, Script, Act, Reply, Entry}
use Rattle.hib_journal.specs.Sessions.{Journal, own}
use Rattle.hib_journal.specs.Slot.{LockState, Slot, slot}
use Rattle.hib_journal.specs.Next.{lock_id}
use Rattle.hib_journal.specs.Sound.{is_sound}
use Rattle.hib_journal.specs.Coherence.{holders}
use Rattle.hib_law.specs.Prefixes.{AtEachPrefix, AtEachEntry}

abbrev pub is_holder : ℕ → Key → Journal → Bool
is_holder s k h = list_any (λ t. t == s) (holders k h)

-- how many hold the lock in a slot
abbrev pub holder_count : Slot → ℕ
holder_count (Slot.Lock l) = l.holders
holder_count _ = 0

-- the slot counts the sessions that have locked k and not given the lock back, and each of them was told the id that the lock has
pub record IsLockHeld (script : Script) (k : Key) (h : Journal) : Type 0 where
  pub count : length (holders k h) ≡ holder_count (slot script.timeout k h)
  pub id : (s : ℕ) → is_holder s k h ≡ true → (l : LockState) × (slot script.timeout k h ≡ Slot.Lock l) × (l.id ≡ lock_id k (own s h))

-- a lock that a session gives back is its own, and it is not refused; if it is answered who still holds it, there is one fewer
pub record IsGivenBack (k : Key) (h : Journal) (e : Entry) : Type 0 where
  pub unlock : (s i : ℕ) → e.session ≡ Some s → e.act ≡ Act.Unlock k i →
      (is_holder s k h ≡ true) × (n : ℕ) × (suc n ≡ length (holders k h)) × (e.reply ≡ Reply.Unlocked (Unlocked.Released n))
  pub update : (s i : ℕ) (r : Row) → e.session ≡ Some s → e.act ≡ Act.AfterUpdate k i r →
      (is_holder s k h ≡ true)
      × ((e.reply ≡ Reply.Updated Updated.Stored) ⊎ ((n : ℕ) × (suc n ≡ length (holders k h)) × (e.reply ≡ Reply.Updated (Updated.Shared n))))

pub record AreLocksKept (script : Script) (k : Key) (h : Journal) : Type 0 where
  pub held : AtEachPrefix (λ g. is_sound k g ≡ true → IsLockHeld script k g) h
  pub back : AtEachEntry (λ g e. is_sound k g ≡ true → IsGivenBack k g e) h
