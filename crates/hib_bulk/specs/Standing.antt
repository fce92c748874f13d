-- The parts of a run with bulk lines: what they stand for, and what they owe for an act.
use Rattle.std.specs.Prelude.{◌≡◌, ◌<◌, ℕ, Bool, true, false, List, ◌∷◌, length, Some, None, Option}
use Rattle.std.specs.Option.{option_map}
use Rattle.hib_base.specs.Tables.{Tables}
use Rattle.hib_journal.specs.Types.{Key, Script, Act, Reply, Entry}
use Rattle.hib_journal.specs.Sessions.{Journal, own, was_killed, last_tick}
use Rattle.hib_journal.specs.Lists.{unsaved}
use Rattle.hib_outside.specs.Causes.{Rose}
use Rattle.hib_store.specs.Stores.{StoreState, changes_of}
use Rattle.hib_query_cache.specs.Ranked.{Ranked}
use Rattle.hib_session.specs.Session.{own_reply}
use Rattle.hib_engines.specs.Registry.{IsRegistry}
use Rattle.hib_engines.specs.Store.{IsCounted}
use Rattle.hib_engines.specs.Stamps.{AreStamps}
use Rattle.hib_engines.specs.Results.{AreResults}
use Rattle.hib_engines.specs.Bridged.{IsBridged}
use Rattle.hib_engines.specs.Due.{IsDue}
use Rattle.hib_bulk.specs.Types.{BulkDef, BulkAct, BulkReply, BulkEntry}
use Rattle.hib_bulk_law.specs.Plain.{Bulked, plain, plain_reply}
use Rattle.hib_bulk_law.specs.Rows.{line, committed}
use Rattle.hib_bulk_law.specs.Wide.{is_old}
use Rattle.hib_bulk_law.specs.Acts.{swept_for, part_of}
use Rattle.hib_bulk_law.specs.Legal.{IsReply}
use Rattle.hib_bulk.specs.declared.region.EntityRegion.{EntityRegion}
use Rattle.hib_bulk.specs.Changed.{is_fault}
use Rattle.hib_bulk.specs.Regions.{region_of, IsPlaced}

pub record BulkPartsState : Type 0 where
  pub store : StoreState
  pub registry : List (ℕ × ℕ)
  pub stamps : List (Option ℕ)
  pub regions : List EntityRegion
  pub results : Ranked

-- the committed rows, if those at the start are told
abbrev pub told_committed : Script → List BulkDef → Option Tables → Bulked → Option Tables
told_committed script lines told h = option_map (λ start. committed script lines start h) told

-- what is the same for everybody but the bulk lines stands for the plain journal
pub record ArePlain (script : Script) (g : Journal) (x : BulkPartsState) : Type 0 where
  pub changes : (n : ℕ) → changes_of x.store n ≡ unsaved n g
  pub bridged : IsBridged g
  pub registry : IsRegistry x.registry g
  pub stamps : AreStamps script g x.stamps
  pub results : AreResults script g x.results
  pub live : (n : ℕ) → was_killed n g ≡ false

-- each part stands for the entries, from these rows if they are told
pub record AreStanding (script : Script) (lines : List BulkDef) (told : Option Tables) (h : Bulked) (x : BulkPartsState) : Type 0 where
  pub rows : x.store.tables ≡ told_committed script lines told h
  pub plain : ArePlain script (plain h) x
  pub regions : (n : ℕ) → IsPlaced script n h (region_of x.regions n)
  pub entities : length x.regions ≡ length script.mapping

-- all parts are as before, but for the keeper's counts
pub record IsStill (x y : BulkPartsState) : Type 0 where
  pub store : IsCounted x.store y.store
  pub registry : y.registry ≡ x.registry
  pub stamps : y.stamps ≡ x.stamps
  pub regions : y.regions ≡ x.regions
  pub results : y.results ≡ x.results

-- the entry of an act of a session or a line that was answered at a tick
abbrev pub entry_at : ℕ → ℕ → BulkAct → BulkReply → BulkEntry
entry_at now s a r = record { tick = now; session = s; part = part_of a s; act = a; reply = r }

-- a tick is after those of all entries
abbrev pub IsLate : ℕ → Journal → Type 0
IsLate now g = (p : Entry → Bool) → last_tick p g < now

-- over entries that the parts stand for, the act of session s is due at a tick after all of them, and meets no old item
pub record IsReady (script : Script) (lines : List BulkDef) (told : Option Tables) (h : Bulked) (s now : ℕ) (a : Act) (x : BulkPartsState) : Type 0 where
  pub standing : AreStanding script lines told h x
  pub late : IsLate now (plain h)
  pub due : IsDue script (own s (plain h)) a
  pub session : line script lines s ≡ None
  pub swept : (k : Key) → swept_for a ≡ Some k → is_old script k h ≡ false

-- an act was answered: with a reply that may be, and the parts stand for the entries with its own
pub record IsAnswered (script : Script) (lines : List BulkDef) (told : Option Tables) (h : Bulked) (s now : ℕ) (a : BulkAct) (r : BulkReply) (y : BulkPartsState) : Type 0 where
  pub reply : IsReply script lines told h (entry_at now s a r)
  pub standing : AreStanding script lines told (entry_at now s a r ∷ h) y

-- an act of a session was answered, with the session's own reply if it has one, and the keeper failed if the reply says so
pub record IsTold (script : Script) (lines : List BulkDef) (told : Option Tables) (h : Bulked) (s now : ℕ) (a : Act) (r : BulkReply) (x y : BulkPartsState) : Type 0 where
  pub answered : IsAnswered script lines told h s now (BulkAct.Plain a) r y
  pub mine : (q : Reply) → own_reply script (own s (plain h)) a ≡ Some q → plain_reply a r ≡ q
  pub fault : is_fault r ≡ true → Rose x.store.faults y.store.faults
