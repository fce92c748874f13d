-- What is claimed of the sessions that have written a change of a read-write key.
use Rattle.std.specs.Prelude.{◌≡◌, ℕ, Bool, true, false, if◌then◌else◌, ◌||◌, [], ◌∷◌, Some}
use Rattle.hib_journal.specs.Types.{Key, Change}
use Rattle.hib_base.specs.Tables.{first_on}
use Rattle.hib_journal.specs.Sessions.{Journal, own, changes, is_open}
use Rattle.hib_journal.specs.Held.{is_begin}
use Rattle.hib_journal.specs.Coherence.{gives_back}
use Rattle.hib_journal.specs.Sound.{inserts_key}
use Rattle.hib_law.specs.Locks.{is_holder}

-- whether one session's entries give the lock of k back since its last Begin
abbrev pub gave_back : Key → Journal → Bool
gave_back k [] = false
gave_back k (e ∷ m) = if is_begin e.act then false else gives_back k e.act || gave_back k m

-- an open session whose first change of k is no insert holds the lock of k until it gives it back
abbrev pub AreWritersHolders : Key → Journal → Type 0
AreWritersHolders k h =
    (s : ℕ) (c : Change) → is_open s h ≡ true → first_on k (changes s h) ≡ Some c → inserts_key k c ≡ false →
    gave_back k (own s h) ≡ false → is_holder s k h ≡ true
