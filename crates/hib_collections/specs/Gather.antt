-- A run with collections as contracts see it, and what its steps are.
use Rattle.std.specs.Prelude.{◌≡◌, ℕ, Bool, true, false, List, [], ◌∷◌, reverse}
use Rattle.hib_journal.specs.Types.{Script, Entry}
use Rattle.hib_journal.specs.Sessions.{Journal}
use Rattle.hib_engines.specs.Engines.{EnginesState}
use Rattle.hib_engines.specs.Origin.{Origin}
use Rattle.hib_listeners.specs.Told.{Told, AreTold}
use Rattle.hib_collections_law.specs.declared.entries.Def.{Def}
use Rattle.hib_collections_law.specs.declared.entries.GatherEntry.{GatherEntry}
use Rattle.hib_collections_law.specs.Types.{Gathered}
use Rattle.hib_collections_law.specs.Gathered.{is_by, plain}
use Rattle.hib_collections.specs.Kept.{Kept, past}
use Rattle.hib_playing.specs.Playing.{GoesOn}
use Rattle.hib_collections.specs.Played.{has_next}
use Rattle.hib_collections.specs.Run.{IsAskedOnceMore}

-- beside the steps what its listeners tell, and whether one had no memory for the newest entry that they hear of
pub record GatherState : Type 0 where
  pub journal : Kept
  pub engines : EnginesState
  pub refused : Bool
  pub told : List Told
  pub deaf : Bool

-- the entries that listeners hear of, the oldest first: those of the sessions' plans, and each Hit as the list that it stands for
abbrev pub heard_in : Script → Gathered → List Entry
heard_in script g = reverse (plain script g)

-- something was due in session s, and its entry was added
pub record HasStepped (script : Script) (defs : List Def) (s : ℕ) (old new : Gathered) : Type 0 where
  pub entry : GatherEntry
  pub grown : new ≡ entry ∷ old
  pub by : is_by s entry ≡ true
  pub due : has_next script defs old s ≡ true

-- nothing is due in session s, and no entry was added
pub record IsOver (script : Script) (defs : List Def) (s : ℕ) (old new : Gathered) : Type 0 where
  pub same : new ≡ old
  pub over : has_next script defs new s ≡ false

-- what listeners told before and after a step: if it added an entry that they hear of they were told that, and else nothing
abbrev pub Hears : Journal → Journal → Bool → List Told → List Told → Type 0
Hears old new whole told now = ((e : Entry) → new ≡ e ∷ old → AreTold e whole told now) × (new ≡ old → now ≡ told)

-- listeners before and after they were told these entries, of which there is one at most; whether all have heard it
abbrev pub AreHeard : Journal → Bool → List Told → List Told → Type 0
AreHeard [] whole told now = (now ≡ told) × (whole ≡ true)
AreHeard (e ∷ h) whole told now = AreTold e whole told now

-- a run stopped, since memory ran out: the entries so far stand, the run says so, and the keeper was asked once more at most than they say,
-- unless memory had run out before
pub record HasStopped (script : Script) (from : Origin) (old new : GatherState) : Type 0 where
  pub stands : GoesOn (past old.journal) (past new.journal)
  pub asked : old.refused ≡ false → IsAskedOnceMore script from (past new.journal) new.engines
  pub refused : new.refused ≡ true
