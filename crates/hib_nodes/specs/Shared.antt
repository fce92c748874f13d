-- What the sessions of a run share, and what a turn of one leaves of it.
use Rattle.std.specs.Prelude.{◌≡◌, ◌≢◌, ◌<◌, ◌+◌, ℕ, List, ◌∷◌, length, slice_get, Some, true, Result, Ok, OnOk}
use Rattle.std.specs.declared.alloc.AllocError.{AllocError}
use Rattle.hib_journal.specs.Types.{Script, Part, Act, Reply}
use Rattle.hib_journal.specs.Sessions.{Journal, own}
use Rattle.hib_journal.specs.Lists.{entry_at, of_part}
use Rattle.hib_journal.specs.Next.{next}
use Rattle.hib_journal.specs.Runs.{is_fault}
use Rattle.hib_outside.specs.Causes.{Rose}
use Rattle.hib_session.specs.declared.session.Session.{Session}
use Rattle.hib_session.specs.Session.{Follows, number_of}
use Rattle.hib_split_law.specs.Apart.{store_ask_count}
use Rattle.hib_engines.specs.Counts.{RoseWithin}
use Rattle.hib_engines.specs.declared.stepped.Stepped.{Stepped}
use Rattle.hib_engines.specs.Due.{IsDue}
use Rattle.hib_engines.specs.Origin.{Origin}
use Rattle.hib_nodes_law.specs.declared.nodes.NodeEntry.{NodeEntry}
use Rattle.hib_nodes_law.specs.Types.{Noded, Nodings}
use Rattle.hib_nodes_law.specs.Nodes.{entries}
use Rattle.hib_nodes_law.specs.Legal.{node_of}
use Rattle.hib_nodes.specs.Kept.{Kept, past}
use Rattle.hib_nodes.specs.Standing.{NodesPartsState, IsAskedFor, IsStepRefused, IsStill, entry_on}
use Rattle.hib_nodes.specs.Queue.{QueuesState, AreQueues, AreWaiting}
use Rattle.hib_nodes.specs.Run.{IsRun, HasStepped, IsOver}

pub record SharedState : Type 0 where
  pub parts : NodesPartsState
  pub queues : QueuesState
  pub journal : Kept

-- the parts and the queues stand for the journal
pub record IsShared (script : Script) (places : Nodings) (from : Origin) (x : SharedState) : Type 0 where
  pub run : IsRun script places from (past x.journal) x.parts
  pub queues : AreQueues script (past x.journal) x.queues

-- an act is due in session y
pub record IsTurn (script : Script) (h : Noded) (y : Session) (a : Act) : Type 0 where
  pub known : number_of y < length script.sessions
  pub follows : Follows script y (own (number_of y) (entries h))
  pub next : next script (number_of y) (own (number_of y) (entries h)) ≡ Some a
  pub due : IsDue script (own (number_of y) (entries h)) a

-- an act of session y was answered, its entry added, and taken by the session
pub record Serves (script : Script) (places : Nodings) (from : Origin) (a : Act) (x w : SharedState) (y z : Session) : Type 0 where
  pub answer : Reply
  pub grown : past w.journal ≡ entry_on (node_of places (number_of y)) (entry_at (length (past x.journal) + 1) (Some (number_of y)) a answer) ∷ past x.journal
  pub shared : IsShared script places from w
  pub number : number_of z ≡ number_of y
  pub follows : Follows script z (own (number_of y) (entries (past w.journal)))
  pub asked : IsAskedFor (past x.journal) (number_of y) a x.parts w.parts
  pub fault : is_fault answer ≡ true → Rose x.parts.store.faults w.parts.store.faults

-- nothing was added: all is as before but for room, and for the keeper's counts if the act that was due calls it; the session follows what it
-- followed
pub record Leaves (script : Script) (x w : SharedState) (y z : Session) : Type 0 where
  pub same : past w.journal ≡ past x.journal
  pub parts : IsStepRefused script (past x.journal) (number_of y) x.parts w.parts
  pub queues : AreWaiting x.queues w.queues
  pub number : number_of z ≡ number_of y
  pub follows : (mine : Journal) → Follows script y mine → Follows script z mine

-- the act that was due in session y was answered, its entry added, and taken by the session
pub record Moves (script : Script) (places : Nodings) (from : Origin) (x w : SharedState) (y z : Session) : Type 0 where
  pub act : Act
  pub due : next script (number_of y) (own (number_of y) (entries (past x.journal))) ≡ Some act
  pub serves : Serves script places from act x w y z

-- the keeper was asked no more often than the store's entries say, if it was so before
abbrev pub IsAskedOn : SharedState → SharedState → Type 0
IsAskedOn x w = (b : ℕ) → RoseWithin b (store_ask_count (of_part Part.Store (entries (past x.journal)))) x.parts.store.asked →
    RoseWithin b (store_ask_count (of_part Part.Store (entries (past w.journal)))) w.parts.store.asked

-- what a turn of session s leaves, as those see it who keep no session
pub record HasTurned (script : Script) (places : Nodings) (from : Origin) (s : ℕ) (r : Result Stepped AllocError) (x w : SharedState) : Type 0 where
  pub shared : IsShared script places from w
  pub did : r ≡ Ok Stepped.Did → HasStepped script places s (past x.journal) (past w.journal)
  pub done : r ≡ Ok Stepped.Done → IsOver script s (past x.journal) (past w.journal)
  pub same : r ≢ Ok Stepped.Did → past w.journal ≡ past x.journal
  pub still : r ≢ Ok Stepped.Did → IsStill x.parts w.parts
  pub counts : r ≢ Ok Stepped.Did → IsStepRefused script (past x.journal) s x.parts w.parts
  pub asked : OnOk r (IsAskedOn x w)
  pub asks_once : (e : NodeEntry) → past w.journal ≡ e ∷ past x.journal → IsAskedFor (past x.journal) s e.entry.act x.parts w.parts
  pub fault : (e : NodeEntry) → past w.journal ≡ e ∷ past x.journal → is_fault e.entry.reply ≡ true → Rose x.parts.store.faults w.parts.store.faults

-- the sessions, each as far as its own entries
pub record AreSessions (script : Script) (h : Noded) (xs : List Session) : Type 0 where
  pub all : length xs ≡ length script.sessions
  pub numbers : (s : ℕ) (y : Session) → slice_get xs s ≡ Some y → number_of y ≡ s
  pub follow : (s : ℕ) (y : Session) → slice_get xs s ≡ Some y → Follows script y (own s (entries h))
