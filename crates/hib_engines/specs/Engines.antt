-- The five engines together: what they stand for, and what they owe for an act.
use Rattle.std.specs.Prelude.{◌≡◌, ℕ, true, false, if◌then◌else◌, List, ◌∷◌, length, Some, Option}
use Rattle.hib_base.specs.Tables.{Tables}
use Rattle.hib_journal.specs.Types.{Script, Act, Reply}
use Rattle.hib_journal.specs.Sessions.{Journal, own, was_killed, changes, changes_in}
use Rattle.hib_journal.specs.Legal.{IsReply, part_of, is_told}
use Rattle.hib_journal.specs.Lists.{entry_at, IsLate}
use Rattle.hib_journal.specs.Runs.{asks, is_fault}
use Rattle.hib_outside.specs.Causes.{Rose}
use Rattle.hib_store.specs.Stores.{StoreState}
use Rattle.hib_query_cache.specs.Ranked.{Ranked}
use Rattle.hib_session.specs.Session.{own_reply}
use Rattle.hib_engines.specs.declared.region.Region.{Region}
use Rattle.hib_engines.specs.Registry.{IsRegistry}
use Rattle.hib_engines.specs.Region.{IsPlaced}
use Rattle.hib_engines.specs.Store.{IsStored, IsCounted}
use Rattle.hib_engines.specs.Counts.{RoseWithin}
use Rattle.hib_engines.specs.Regions.{region_of}
use Rattle.hib_engines.specs.Bridged.{IsBridged}
use Rattle.hib_engines.specs.Due.{IsDue}
use Rattle.hib_engines.specs.Stamps.{AreStamps}
use Rattle.hib_engines.specs.Results.{AreResults}

pub record EnginesState : Type 0 where
  pub store : StoreState
  pub registry : List (ℕ × ℕ)
  pub stamps : List (Option ℕ)
  pub regions : List Region
  pub results : Ranked

-- each engine stands for the entries, from these rows if they are told, and what the store defers is what the sessions have
-- written and not committed
pub record AreStanding (script : Script) (told : Option Tables) (h : Journal) (x : EnginesState) : Type 0 where
  pub store : IsStored told h x.store
  pub bridged : IsBridged h
  pub registry : IsRegistry x.registry h
  pub stamps : AreStamps script h x.stamps
  pub regions : (n : ℕ) → IsPlaced script n h (region_of x.regions n)
  pub entities : length x.regions ≡ length script.mapping
  pub results : AreResults script h x.results

-- all engines are as before, but for the keeper's counts, and the keeper was asked once at most
pub record IsStill (x y : EnginesState) : Type 0 where
  pub store : IsCounted x.store y.store
  pub registry : y.registry ≡ x.registry
  pub stamps : y.stamps ≡ x.stamps
  pub regions : y.regions ≡ x.regions
  pub results : y.results ≡ x.results

-- ---- an act that is due

-- over entries that the engines stand for, in which s lives, the act is due at a tick that is late enough for its part
pub record IsReady (script : Script) (told : Option Tables) (h : Journal) (s now : ℕ) (a : Act) (x : EnginesState) : Type 0 where
  pub standing : AreStanding script told h x
  pub live : was_killed s h ≡ false
  pub late : IsLate (part_of a s) now h
  pub due : IsDue script (own s h) a

-- an act was answered: with a reply that may be, and the engines stand for the entries with its own
pub record IsAnswered (script : Script) (told : Option Tables) (h : Journal) (by : Option ℕ) (now : ℕ) (a : Act) (r : Reply) (y : EnginesState) : Type 0 where
  pub reply : IsReply script told h (entry_at now by a r)
  pub standing : AreStanding script told (entry_at now by a r ∷ h) y

-- the keeper was asked once at most for an act of s, and only if the act asks
abbrev pub IsAskedFor : Journal → ℕ → Act → EnginesState → EnginesState → Type 0
IsAskedFor h s a x y = RoseWithin x.store.asked (if asks (changes_in (own s h)) a then 1 else 0) y.store.asked

-- an act of s was refused for want of memory, or its answer is let go. All engines are as before, but for the keeper's counts: it was asked
-- only if the act asks, and nothing at all has changed if the reply to the act doesn't hang on the committed rows
pub record IsRefused (h : Journal) (s : ℕ) (a : Act) (x y : EnginesState) : Type 0 where
  pub still : IsStill x y
  pub entities : y.store.entities ≡ x.store.entities
  pub asked : IsAskedFor h s a x y
  pub same : is_told (changes s h) a ≡ false → y ≡ x

-- an act of s was answered, with the session's own reply if it has one; the keeper was asked as the act allows, and it failed if
-- the reply says so
pub record IsTold (script : Script) (told : Option Tables) (h : Journal) (s now : ℕ) (a : Act) (r : Reply) (x y : EnginesState) : Type 0 where
  pub answered : IsAnswered script told h (Some s) now a r y
  pub mine : (q : Reply) → own_reply script (own s h) a ≡ Some q → r ≡ q
  pub asked : IsAskedFor h s a x y
  pub fault : is_fault r ≡ true → Rose x.store.faults y.store.faults
