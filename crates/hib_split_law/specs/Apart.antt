-- When the list of a part, and that of a session, is legal by itself.
use Rattle.std.specs.Prelude.{◌≡◌, ◌≤◌, ◌<◌, ◌+◌, ◌^◌, ℕ, Bool, true, false, [], ◌∷◌, Some, Option, unwrap_or, if◌then◌else◌}
use Rattle.hib_base.specs.Tables.{Tables}
use Rattle.hib_journal.specs.Types.{Act, Part, Entry, Script}
use Rattle.hib_journal.specs.Sessions.{Journal, own, committed, last_tick}
use Rattle.hib_journal.specs.Next.{next}
use Rattle.hib_journal.specs.Legal.{reply_of, part_of}
use Rattle.hib_journal.specs.Lists.{of_part, unsaved, stored, IsStoreReply}
use Rattle.hib_journal.specs.Runs.{asks, ask_count, fault_count}

-- the acts whose replies hang on the session's entries alone
abbrev pub is_of_session : Act → Bool
is_of_session Act.End = true
is_of_session (Act.Find k) = true
is_of_session (Act.Persist k r) = true
is_of_session (Act.Set k cells) = true
is_of_session (Act.Remove k) = true
is_of_session Act.Clear = true
is_of_session _ = false

-- an entry of a part: its tick is after that of the last one, and its reply is the one that is due over the part's list
pub record IsPartStep (script : Script) (told : Option Tables) (l : Journal) (e : Entry) : Type 0 where
  pub tick : last_tick (λ _. true) l < e.tick
  pub reply : is_of_session e.act ≡ false → IsStoreReply script told l e

-- a part's list is legal by itself
abbrev pub IsPartLegal : Script → Option Tables → Journal → Type 0
IsPartLegal script told [] = Unit {0}
IsPartLegal script told (e ∷ l) = IsPartLegal script told l × IsPartStep script told l e

-- an entry of session s: its tick is after that of the last one, its act is the next one, and it answers itself what hangs on its
-- entries alone
pub record IsOwnStep (script : Script) (s : ℕ) (m : Journal) (e : Entry) : Type 0 where
  pub tick : last_tick (λ _. true) m < e.tick
  pub act : next script s m ≡ Some e.act
  pub part : part_of e.act s ≡ e.part
  pub reply : is_of_session e.act ≡ true → e.reply ≡ reply_of script [] m s e.tick e.act

-- the list of session s is legal by itself
abbrev pub IsOwnLegal : Script → ℕ → Journal → Type 0
IsOwnLegal script s [] = Unit {0}
IsOwnLegal script s (e ∷ m) = IsOwnLegal script s m × IsOwnStep script s m e

-- each entry is a session's
abbrev pub HaveSessions : Journal → Type 0
HaveSessions [] = Unit {0}
HaveSessions (e ∷ h) = HaveSessions h × (e.session ≡ Some (unwrap_or e.session 0))

-- ticks are at most 2 ^ 62 and never fall
pub record IsLater (e : Entry) (h : Journal) : Type 0 where
  pub bounded : e.tick ≤ 2 ^ 62
  pub ordered : last_tick (λ _. true) h ≤ e.tick

abbrev pub AreLater : Journal → Type 0
AreLater [] = Unit {0}
AreLater (e ∷ h) = AreLater h × IsLater e h

-- what is a session's own is no part that others share
abbrev pub is_own : Part → Bool
is_own (Part.Own s) = true
is_own _ = false

-- the list of each shared part, and that of each session, is legal by itself
pub record IsLegalApart (script : Script) (told : Option Tables) (h : Journal) : Type 0 where
  pub parts : (p : Part) → is_own p ≡ false → IsPartLegal script told (of_part p h)
  pub sessions : (s : ℕ) → IsOwnLegal script s (own s h)

-- the entries of the store's list at which it may have asked the keeper
abbrev pub store_ask_count : Journal → ℕ
store_ask_count [] = 0
store_ask_count (e ∷ l) = store_ask_count l + (if asks (unsaved (unwrap_or e.session 0) l) e.act then 1 else 0)

-- the committed rows and the counts of a journal are those of the store's list
pub record IsStoreAlone (h l : Journal) : Type 0 where
  pub rows : (start : Tables) → committed start h ≡ stored start l
  pub asked : ask_count h ≡ store_ask_count l
  pub faults : fault_count h ≡ fault_count l
