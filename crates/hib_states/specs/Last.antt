-- What is told of a state gives the state: by what was told last of each thing.
use Rattle.std.specs.Prelude.{◌≡◌, ℕ, Bool, true, false, if◌then◌else◌, ◌&&◌, ◌==◌, List, [], ◌∷◌, ◌++◌, None, Option}
use Rattle.hib_base.specs.Keys.{same_key}
use Rattle.hib_base.specs.Tables.{Tables, row_at}
use Rattle.hib_journal.specs.Types.{Key, Row, Change, Script}
use Rattle.hib_journal.specs.Coherence.{holders}
use Rattle.hib_journal.specs.Held.{held}
use Rattle.hib_journal.specs.Legal.{row_of}
use Rattle.hib_journal.specs.Sessions.{Journal, own, time, floor_in, changes, committed, is_open}
use Rattle.hib_journal.specs.Slot.{Slot}
use Rattle.hib_journal.specs.Sound.{is_sound}
use Rattle.hib_journal.specs.Stamps.{stamp}
use Rattle.hib_follow.specs.Cached.{cached}
use Rattle.hib_states.specs.Facts.{Fact}
use Rattle.hib_states.specs.States.{facts, is_guarded}

-- the committed row of each key, and what its region has; the stamp of each table; of each session whether it is open, its time, its floor and
-- what it has written, and the rows that finds would give it of its own copies; who holds each key, and whether the claims speak of it
pub record State : Type 0 where
  pub rows : Key → Option Row
  pub slots : Key → Slot
  pub stamps : ℕ → Option ℕ
  pub opened : ℕ → Bool
  pub times : ℕ → ℕ
  pub floors : ℕ → ℕ
  pub changes : ℕ → List Change
  pub copies : ℕ → Key → Option Row
  pub holders : Key → List ℕ
  pub sound : Key → Bool

-- after a journal, by the definitions
abbrev pub state_of : Script → Tables → Journal → State
state_of script start h = record {
  rows = row_at (committed start h);
  slots = λ k. cached script k h;
  stamps = λ t. stamp script.timeout t h;
  opened = λ s. is_open s h;
  times = λ s. time s h;
  floors = λ s. floor_in (own s h);
  changes = λ s. changes s h;
  copies = λ s k. row_of (held (own s h) k);
  holders = λ k. holders k h;
  sound = λ k. if is_guarded script k then is_sound k h else true;
}

-- one thing has another value
abbrev pub key_set : {A : Type 0} → Key → A → (Key → A) → Key → A
key_set k a f j = if same_key k j then a else f j

abbrev pub set : {A : Type 0} → ℕ → A → (ℕ → A) → ℕ → A
set n a f m = if n == m then a else f m

-- what was told is so from now on. A session that begins has written nothing
abbrev pub taken : Fact → State → State
taken (Fact.Committed k r) s = record s { rows = key_set k r s.rows }
taken (Fact.Cached k z) s = record s { slots = key_set k z s.slots }
taken (Fact.Stamped t v) s = record s { stamps = set t v s.stamps }
taken (Fact.Session n on time floor) s = record s {
  opened = set n on s.opened;
  times = set n time s.times;
  floors = set n floor s.floors;
  changes = λ m. if on && (n == m) then [] else s.changes m;
}
taken (Fact.Written n c) s = record s { changes = set n (s.changes n ++ c ∷ []) s.changes }
taken (Fact.Copied n k r) s = record s { copies = λ m j. if same_key k j && (n == m) then r else s.copies m j }
taken (Fact.Emptied n) s = record s { copies = λ m j. if n == m then None else s.copies m j }
taken (Fact.Holders k ss) s = record s { holders = key_set k ss s.holders }
taken (Fact.Unsound k deleted) s = record s { sound = key_set k false s.sound }
taken Fact.Restarted s = record s { slots = λ k. Slot.Vacant; stamps = λ t. None; opened = λ n. false; holders = λ k. []; sound = λ k. true }
taken _ s = s

abbrev pub all_taken : List Fact → State → State
all_taken [] s = s
all_taken (f ∷ fs) s = all_taken fs (taken f s)

-- what is told of a journal, the oldest entry first
abbrev pub all_facts : Script → Tables → Journal → List Fact
all_facts script start [] = []
all_facts script start (e ∷ h) = all_facts script start h ++ facts script start h e

-- taken one after the other from the state at the start, it is the state after the journal
abbrev pub IsToldWhole : Script → Tables → Journal → Type 0
IsToldWhole script start h = all_taken (all_facts script start h) (state_of script start []) ≡ state_of script start h
