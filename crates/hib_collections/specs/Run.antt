-- What a run with collections keeps: its journal is legal, and its engines, regions and sessions stand for it.
use Rattle.std.specs.Prelude.{◌≡◌, ℕ, ◌+◌, ◌≤◌, ◌<◌, ◌^◌, Bool, true, false, if◌then◌else◌, List, [], ◌∷◌, ◌++◌, length, is_some, Some, None, Option, unwrap_or}
use Rattle.std.specs.List.{list_all}
use Rattle.hib_base.specs.Tables.{Tables, in_order}
use Rattle.hib_base.specs.Valid.{is_valid}
use Rattle.hib_journal.specs.Types.{Cell, Script, Act, Reply}
use Rattle.hib_journal.specs.Sessions.{Journal, own, changes, was_killed}
use Rattle.hib_journal.specs.Room.{key}
use Rattle.hib_journal.specs.Legal.{reply_of}
use Rattle.hib_journal.specs.Runs.{asks, is_fault, fault_count}
use Rattle.hib_outside.specs.Causes.{Rose}
use Rattle.hib_engines.specs.declared.region.Region.{Region}
use Rattle.hib_session.specs.Session.{Follows, number_of}
use Rattle.hib_engines.specs.Origin.{Origin}
use Rattle.hib_engines.specs.Counts.{RoseBy, RoseWithin}
use Rattle.hib_engines.specs.Built.{IsBuilt}
use Rattle.hib_engines.specs.Due.{IsDue}
use Rattle.hib_engines.specs.Engines.{EnginesState, AreStanding, IsRefused}
use Rattle.hib_collections_law.specs.declared.entries.Def.{Def}
use Rattle.hib_collections_law.specs.declared.entries.GatherEntry.{GatherEntry}
use Rattle.hib_collections_law.specs.declared.entries.MemberAct.{MemberAct}
use Rattle.hib_collections_law.specs.Types.{Gathered, max_collections}
use Rattle.hib_collections_law.specs.Law.{is_versioned}
use Rattle.hib_collections_law.specs.Gathered.{Due, IsGathered, due, due_in, is_by, plain, region_act, region_script, regions}
use Rattle.hib_collections.specs.Collected.{AreCollected}
use Rattle.hib_collections.specs.Gatherers.{IsGatherer}
use Rattle.hib_collections.specs.Kept.{Kept}
use Rattle.hib_collections.specs.declared.members.Gatherer.{Gatherer}
use Rattle.hib_collections.specs.declared.turns.Turned.{Turned}

-- ---- what it stands for

-- what a run asks of its script and its collections: the script is valid, the collections aren't more than the limit, and each is
-- of an entity whose rows have versions
pub record AreSet (script : Script) (defs : List Def) : Type 0 where
  pub valid : is_valid script ≡ true
  pub few : length defs ≤ max_collections
  pub versioned : list_all (λ d. is_versioned script d.entity) defs ≡ true

-- the journal is legal, no session of it was killed, rows that are told at the start are in order, the engines and the regions stand for it, and the keeper has failed as often as it says
pub record IsRun (script : Script) (defs : List Def) (from : Origin) (g : Gathered) (x : EnginesState) (rs : List Region) : Type 0 where
  pub gathered : IsGathered script defs from.tables g
  pub few : length g < 2 ^ 62
  pub live : (s : ℕ) → was_killed s (plain script g) ≡ false
  pub engines : AreStanding script from.tables (plain script g) x
  pub regions : AreCollected script defs g rs
  pub ordered : (start : Tables) → from.tables ≡ Some start → in_order start ≡ true
  pub faults : RoseBy from.faults (fault_count (plain script g)) x.store.faults
  pub built : IsBuilt script
  pub set : AreSet script defs

-- ---- a step

-- how often the keeper is asked at an entry at most: once at one of a session's plan whose act asks, and never at one of a collection's region, as a Hit
abbrev pub asks_at : Script → GatherEntry → Gathered → ℕ
asks_at script (GatherEntry.Plain e) g = if asks (changes (unwrap_or e.session 0) (plain script g)) e.act then 1 else 0
asks_at script (GatherEntry.Member m) g = 0

-- and at all entries
abbrev pub ask_count : Script → Gathered → ℕ
ask_count script [] = 0
ask_count script (x ∷ g) = ask_count script g + asks_at script x g

-- the keeper was asked no more often than the entry says that comes after these
abbrev pub IsAskedAt : Script → GatherEntry → Gathered → EnginesState → EnginesState → Type 0
IsAskedAt script e g x y = RoseWithin x.store.asked (asks_at script e g) y.store.asked

-- what is left of the engines if this was due in session s and was refused for want of memory, or if nothing was due: a region of a collection
-- doesn't call the keeper
abbrev pub IsRefusedAt : Journal → ℕ → EnginesState → EnginesState → Option Due → Type 0
IsRefusedAt h s x y (Some (Due.Plain a)) = IsRefused h s a x y
IsRefusedAt h s x y _ = y ≡ x

-- and so by what was due, whatever it was
abbrev pub IsStepRefused : Script → List Def → Gathered → ℕ → EnginesState → EnginesState → Type 0
IsStepRefused script defs g s x y = IsRefusedAt (plain script g) s x y (due script defs s g)

-- an entry that says that the keeper failed
abbrev pub says_fault : GatherEntry → Bool
says_fault (GatherEntry.Plain e) = is_fault e.reply
says_fault (GatherEntry.Member m) = is_fault m.reply

-- a turn that did nothing
abbrev pub is_done : Turned → Bool
is_done Turned.Done = true
is_done t = false

-- the plain entries that a turn's entry is or stands for
abbrev pub told_at : GatherEntry → Journal
told_at (GatherEntry.Plain e) = e ∷ []
told_at (GatherEntry.Member m) = []

abbrev pub told_in : Turned → GatherEntry → Journal
told_in (Turned.Hit e) x = e ∷ []
told_in t x = told_at x

-- an act of its plan is due in a session
pub record IsTurn (script : Script) (g : Gathered) (u : Gatherer) (a : Act) : Type 0 where
  pub member : IsGatherer script g (number_of u.session) u
  pub next : due_in script (number_of u.session) (plain script g) ≡ Some a
  pub due : IsDue script (own (number_of u.session) (plain script g)) a

-- the list that a Hit answers
abbrev pub list_of_hit : Reply → Option (List Cell)
list_of_hit (Reply.Hit r) = Some r.cells
list_of_hit _ = None

-- an act of session s at an owner was answered by the region of its collection, at a tick: with the reply of a read-write region, and all regions
-- stand for the journal with its entry
pub record IsAnsweredAt (script : Script) (defs : List Def) (g : Gathered) (s now : ℕ) (p : ℕ × ℕ) (x : MemberAct) (r : Reply) (qs : List Region) : Type 0 where
  pub reply : r ≡ reply_of (region_script script defs) [] (regions g) s now (region_act (key p.0 p.1) x)
  pub regions : AreCollected script defs (GatherEntry.Member (record { tick = now; session = s; collection = p.0; owner = p.1; act = x; reply = r }) ∷ g) qs

-- one entry of session s was added, all stands for the journal with it, and its session has taken it; the keeper was asked as the entry allows,
-- and has failed if it says so; the plain entry that comes with it is that of the turn
pub record Serves (script : Script) (defs : List Def) (from : Origin) (s : ℕ) (g new : Gathered) (x y : EnginesState) (qs : List Region) (v : Gatherer) (t : Turned) : Type 0 where
  pub entry : GatherEntry
  pub grown : new ≡ entry ∷ g
  pub by : is_by s entry ≡ true
  pub due : is_some (due script defs s g) ≡ true
  pub some : is_done t ≡ false
  pub run : IsRun script defs from new y qs
  pub member : IsGatherer script new s v
  pub asked : IsAskedAt script entry g x y
  pub fault : says_fault entry ≡ true → Rose x.store.faults y.store.faults
  pub told : plain script new ≡ told_in t entry ++ plain script g

-- a session that follows what it followed, of which the same is noted
pub record IsKept (script : Script) (u v : Gatherer) : Type 0 where
  pub number : number_of v.session ≡ number_of u.session
  pub follows : (m : Journal) → Follows script u.session m → Follows script v.session m
  pub locks : v.notes.locks ≡ u.notes.locks
  pub missed : v.notes.missed ≡ u.notes.missed
  pub listed : v.notes.listed ≡ u.notes.listed

-- nothing was added: all is as before, but for the keeper's counts, if what was due calls it
pub record Leaves (script : Script) (defs : List Def) (g new : Gathered) (x y : EnginesState) (rs qs : List Region) (u v : Gatherer) : Type 0 where
  pub same : new ≡ g
  pub engines : IsStepRefused script defs g (number_of u.session) x y
  pub regions : qs ≡ rs
  pub kept : IsKept script u v

-- nothing was due
pub record Rests (script : Script) (defs : List Def) (s : ℕ) (g new : Gathered) (x y : EnginesState) (rs qs : List Region) (u v : Gatherer) : Type 0 where
  pub over : due script defs s g ≡ None
  pub still : y ≡ x
  pub leaves : Leaves script defs g new x y rs qs u v

abbrev pub Turns : Script → List Def → Origin → ℕ → Gathered → Gathered → EnginesState → EnginesState → List Region → List Region → Gatherer → Gatherer → Turned → Type 0
Turns script defs from s g new x y rs qs u v Turned.Done = Rests script defs s g new x y rs qs u v
Turns script defs from s g new x y rs qs u v t = Serves script defs from s g new x y qs v t

-- ---- a turn, as those see it who keep no session

-- session s had something to do, and its entry was added
pub record HasMoved (script : Script) (defs : List Def) (s : ℕ) (g new : Gathered) (x y : EnginesState) (t : Turned) : Type 0 where
  pub entry : GatherEntry
  pub grown : new ≡ entry ∷ g
  pub by : is_by s entry ≡ true
  pub due : is_some (due script defs s g) ≡ true
  pub asked : IsAskedAt script entry g x y
  pub fault : says_fault entry ≡ true → Rose x.store.faults y.store.faults
  pub told : plain script new ≡ told_in t entry ++ plain script g

-- session s is at its end, and no entry was added
pub record HasRested (script : Script) (defs : List Def) (s : ℕ) (g new : Gathered) (x y : EnginesState) : Type 0 where
  pub same : new ≡ g
  pub over : due script defs s new ≡ None
  pub still : y ≡ x

abbrev pub Does : Script → List Def → ℕ → Gathered → Gathered → EnginesState → EnginesState → Turned → Type 0
Does script defs s g new x y Turned.Done = HasRested script defs s g new x y
Does script defs s g new x y t = HasMoved script defs s g new x y t

-- ---- the whole

-- the steps of a run as contracts see them
pub record GatherCoreState : Type 0 where
  pub journal : Kept
  pub engines : EnginesState
  pub refused : Bool

-- the keeper was asked no more often than the journal says
abbrev pub IsAsked : Script → Origin → Gathered → EnginesState → Type 0
IsAsked script from g x = RoseWithin from.asked (ask_count script g) x.store.asked

-- or once more, if memory ran out
abbrev pub IsAskedOnceMore : Script → Origin → Gathered → EnginesState → Type 0
IsAskedOnceMore script from g x = RoseWithin from.asked (ask_count script g + 1) x.store.asked
