-- What is kept of each session, and what it stands for.
use Rattle.std.specs.Prelude.{◌≡◌, ℕ, List, [], map, slice_get, Some, None, Option, option_and_then}
use Rattle.std.specs.Borrow.{Bor}
use Rattle.std.specs.Map.{lookup}
use Rattle.hib_base.specs.Keys.{same_key}
use Rattle.hib_base.specs.Tables.{last_on}
use Rattle.hib_journal.specs.Types.{Key, Change, Act, Entry}
use Rattle.hib_journal.specs.Sessions.{Journal, own, time_in, floor_in, changes_in}
use Rattle.hib_follow.specs.declared.desk.Desk.{Desk}

-- what was written, as a list of changes
abbrev pub changes_at : List (Bor Change) → List Change
changes_at cs = map (λ c. c.now) cs

abbrev pub change_in : Act → Option Change
change_in (Act.Write c) = Some c
change_in _ = None

-- the change that the entry at a place writes
abbrev pub change_from : List Entry → ℕ → Option Change
change_from es n = option_and_then (λ (e : Entry). change_in e.act) (slice_get es n)

-- the last change of a key
abbrev pub last_at : List Entry → List (Key × ℕ) → Key → Option Change
last_at es m k = option_and_then (change_from es) (lookup (same_key k) m)

-- of a session after its own entries, which are among all these: when its transaction began, the floor that it was told, the changes that it
-- has written since, and the last of each key
pub record IsDesk (es : List Entry) (mine : Journal) (d : Desk) : Type 0 where
  pub time : d.time ≡ time_in mine
  pub floor : d.floor ≡ floor_in mine
  pub written : changes_at d.written.items ≡ changes_in mine
  pub last : (k : Key) → last_at es d.last.entries k ≡ last_on k (changes_in mine)

-- a session of which nothing is known has done nothing
abbrev pub IsKnown : List Entry → Journal → Option Desk → Type 0
IsKnown es mine None = mine ≡ []
IsKnown es mine (Some d) = IsDesk es mine d

-- by the sessions' numbers
abbrev pub AreDesks : List Entry → Journal → List Desk → Type 0
AreDesks es h ds = (s : ℕ) → IsKnown es (own s h) (slice_get ds s)
