-- What a factory keeps: its journal is legal, and its engines and sessions stand for it.
use Rattle.std.specs.Prelude.{◌≡◌, ℕ, ◌+◌, ◌<◌, Bool, true, false, List, ◌∷◌, length, slice_get, Some, Option, None}
use Rattle.hib_base.specs.Tables.{Tables}
use Rattle.hib_base.specs.Valid.{is_valid}
use Rattle.hib_journal.specs.Types.{Script, Act, Reply, Entry}
use Rattle.hib_journal.specs.Kept.{Kept, past}
use Rattle.hib_journal.specs.Sessions.{Journal, own, was_killed}
use Rattle.hib_journal.specs.Next.{next}
use Rattle.hib_journal.specs.Legal.{IsLegal, is_outside}
use Rattle.hib_journal.specs.Played.{has_next}
use Rattle.hib_journal.specs.Runs.{IsNumbered, ask_count, is_fault, fault_count}
use Rattle.hib_session.specs.declared.session.Session.{Session}
use Rattle.hib_law.specs.Law.{Obeys}
use Rattle.hib_listeners.specs.Told.{Told, AreTold}
use Rattle.hib_outside.specs.Causes.{Rose}
use Rattle.hib_session.specs.Sessions.{AreSessions}
pub use Rattle.hib_session.specs.Sessions.{AreOver}
use Rattle.hib_session.specs.Session.{Follows, IsTaken, number_of, is_killed, left_in}
use Rattle.hib_engines.specs.Due.{IsDue}
use Rattle.hib_engines.specs.Built.{IsBuilt}
use Rattle.hib_engines.specs.Engines.{EnginesState, AreStanding, IsAskedFor, IsRefused}
use Rattle.hib_core.specs.Standing.{Origin, RoseBy, RoseWithin, entry_of}

-- the steps of a factory as contracts see them
pub record CoreState : Type 0 where
  pub journal : Kept
  pub engines : EnginesState
  pub sessions : List Session
  pub refused : Bool

-- a factory: beside them what its listeners tell, and whether one had no memory for the newest entry
pub record FactoryState : Type 0 where
  pub journal : Kept
  pub engines : EnginesState
  pub sessions : List Session
  pub refused : Bool
  pub told : List Told
  pub deaf : Bool

-- the law holds of every legal journal
abbrev pub Lawful : Type 0
Lawful = (script : Script) (told : Option Tables) (h : Journal) → IsLegal script told h → Obeys script told h

-- the journal is legal, so that it obeys the law, with its ticks in turn, the engines stand for it, the store has an
-- index of the script's entities, and the keeper has failed as often as it says
pub record IsRun (script : Script) (from : Origin) (h : Journal) (x : EnginesState) : Type 0 where
  pub legal : IsLegal script from.tables h
  pub law : Obeys script from.tables h
  pub numbered : IsNumbered h
  pub engines : AreStanding script from.tables h x
  pub entities : x.store.entities ≡ length script.mapping
  pub faults : RoseBy from.faults (fault_count h) x.store.faults
  pub built : IsBuilt script

-- the keeper was asked no more often than the journal says
abbrev pub IsAsked : Origin → Journal → EnginesState → Type 0
IsAsked from h x = RoseWithin from.asked (ask_count h) x.store.asked

-- or once more, if memory ran out
abbrev pub IsAskedOnceMore : Origin → Journal → EnginesState → Type 0
IsAskedOnceMore from h x = RoseWithin from.asked (ask_count h + 1) x.store.asked

pub record IsStanding (script : Script) (from : Origin) (x : CoreState) : Type 0 where
  pub valid : is_valid script ≡ true
  pub run : IsRun script from (past x.journal) x.engines
  pub sessions : AreSessions script (past x.journal) x.sessions
  -- unless memory ran out in a call
  pub asked : x.refused ≡ false → IsAsked from (past x.journal) x.engines

-- a session is killed if the journal says so, and else as far as its own entries
pub record IsMember (script : Script) (h : Journal) (y : Session) : Type 0 where
  pub killed : is_killed y ≡ was_killed (number_of y) h
  pub follow : was_killed (number_of y) h ≡ false → Follows script y (own (number_of y) h)

-- an act is due in a session, which was not killed
pub record IsTurn (script : Script) (h : Journal) (y : Session) (a : Act) : Type 0 where
  pub live : was_killed (number_of y) h ≡ false
  pub follows : Follows script y (own (number_of y) h)
  pub next : next script (number_of y) (own (number_of y) h) ≡ Some a
  pub due : IsDue script (own (number_of y) h) a

-- an act of session s was answered, with this entry
pub record Answers (script : Script) (from : Origin) (s : ℕ) (a : Act) (h : Journal) (e : Entry) (x y : EnginesState) : Type 0 where
  pub answer : Reply
  pub entry : e ≡ entry_of h s a answer
  pub run : IsRun script from (e ∷ h) y
  pub taken : IsTaken script s (own s h) e
  pub asked : IsAskedFor h s a x y
  pub fault : is_fault answer ≡ true → Rose x.store.faults y.store.faults

-- an act of session y was answered, its entry added, and taken by the session
pub record Serves (script : Script) (from : Origin) (a : Act) (h new : Journal) (x w : EnginesState) (y z : Session) : Type 0 where
  pub answer : Reply
  pub grown : new ≡ entry_of h (number_of y) a answer ∷ h
  pub run : IsRun script from new w
  pub follows : Follows script z (entry_of h (number_of y) a answer ∷ own (number_of y) h)
  pub less : left_in script z < left_in script y
  pub asked : IsAskedFor h (number_of y) a x w
  pub fault : is_fault answer ≡ true → Rose x.store.faults w.store.faults

-- what is left of the engines if this act was due in session s and was refused, or if none was due
abbrev pub IsRefusedAt : Journal → ℕ → EnginesState → EnginesState → Option Act → Type 0
IsRefusedAt h s x y None = y ≡ x
IsRefusedAt h s x y (Some a) = IsRefused h s a x y

-- and so by the act that was due, whichever it was
abbrev pub IsStepRefused : Script → Journal → ℕ → EnginesState → EnginesState → Type 0
IsStepRefused script h s x y = IsRefusedAt h s x y (next script s (own s h))

-- nothing was added: the engines are as before, but for the keeper's counts, and the session follows what it followed
pub record Leaves (script : Script) (h new : Journal) (x w : EnginesState) (y z : Session) : Type 0 where
  pub same : new ≡ h
  pub engines : IsStepRefused script h (number_of y) x w
  pub follows : (mine : Journal) → Follows script y mine → Follows script z mine

-- the act that was due in session y was served
pub record Moves (script : Script) (from : Origin) (h new : Journal) (x w : EnginesState) (y z : Session) : Type 0 where
  pub act : Act
  pub live : was_killed (number_of y) h ≡ false
  pub next : next script (number_of y) (own (number_of y) h) ≡ Some act
  pub inside : is_outside act ≡ false
  pub served : Serves script from act h new x w y z

-- how much is left of a session
abbrev pub left_or : Script → Option Session → ℕ
left_or script None = 0
left_or script (Some y) = left_in script y

abbrev pub left_at : Script → ℕ → List Session → ℕ
left_at script s xs = left_or script (slice_get xs s)

-- an act was due in session s, its entry was added, and less is left of the session
pub record Does (script : Script) (s : ℕ) (old new : Journal) (xs ys : List Session) : Type 0 where
  pub entry : Entry
  pub by : entry.session ≡ Some s
  pub grown : new ≡ entry ∷ old
  pub due : has_next script old s ≡ true
  pub inside : is_outside entry.act ≡ false
  pub less : left_at script s ys < left_at script s xs

-- one entry was added
abbrev pub HasGrown : Journal → Journal → Type 0
HasGrown old new = (e : Entry) × (new ≡ e ∷ old)

-- what listeners told before and after a step: if it added an entry they were told that, and else nothing
abbrev pub Hears : Journal → Journal → Bool → List Told → List Told → Type 0
Hears old new whole told now = ((e : Entry) → new ≡ e ∷ old → AreTold e whole told now) × (new ≡ old → now ≡ told)

-- session s has no act left, and no entry was added
pub record IsOver (script : Script) (s : ℕ) (old new : Journal) : Type 0 where
  pub same : new ≡ old
  pub over : has_next script new s ≡ false
