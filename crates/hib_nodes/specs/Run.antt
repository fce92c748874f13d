-- What a run of two nodes keeps: its journal is legal by its parts, and its parts, queues and sessions stand for it.
use Rattle.std.specs.Prelude.{◌≡◌, ◌+◌, ℕ, Bool, true, false, [], ◌∷◌, length, Some, None, Option}
use Rattle.std.specs.List.{list_all}
use Rattle.hib_base.specs.Tables.{Tables}
use Rattle.hib_base.specs.Valid.{is_valid}
use Rattle.hib_journal.specs.Types.{Key, Part, Script, Strategy, Locked, Unlocked}
use Rattle.hib_journal.specs.Sessions.{own}
use Rattle.hib_journal.specs.Lists.{of_part}
use Rattle.hib_journal.specs.Next.{next, plan_of, strategy}
use Rattle.hib_journal.specs.Plan.{InOrder}
use Rattle.hib_journal.specs.Runs.{fault_count, ask_count}
use Rattle.hib_split_law.specs.Apart.{store_ask_count}
use Rattle.hib_engines.specs.Built.{IsBuilt}
use Rattle.hib_engines.specs.Counts.{RoseBy, RoseWithin}
use Rattle.hib_engines.specs.Origin.{Origin}
use Rattle.hib_engines.specs.Fenced.{fence_lock, fence_unlock}
use Rattle.hib_nodes_law.specs.declared.nodes.NodeEntry.{NodeEntry}
use Rattle.hib_nodes_law.specs.Types.{Noded, Nodings}
use Rattle.hib_nodes_law.specs.Nodes.{entries, queue}
use Rattle.hib_nodes_law.specs.Legal.{node_of, second_half, AreNodesLegal}
use Rattle.hib_nodes_law.specs.Apart.{AreInTurn, AreNodesApart}
use Rattle.hib_nodes_law.specs.Law.{NodesCohere}
use Rattle.hib_playing.specs.Playing.{GoesOn}
use Rattle.hib_nodes.specs.Kept.{past}
use Rattle.hib_nodes.specs.Standing.{NodesPartsState, AreStanding, entry_on, is_node}

-- what a run asks of its script and its places: the script is valid, and each place is a node
pub record AreSet (script : Script) (places : Nodings) : Type 0 where
  pub valid : is_valid script ≡ true
  pub nodes : list_all (λ p. is_node p.1) places ≡ true

abbrev pub AreAtNodes : Noded → Type 0
AreAtNodes [] = Unit {0}
AreAtNodes (e ∷ h) = AreAtNodes h × (is_node e.node ≡ true)

-- each entry came in its turn and no fence is half done; the lists of all parts and sessions are legal, so the journal is; the parts stand
-- for it, and the keeper has failed as often as it says
pub record IsRun (script : Script) (places : Nodings) (from : Origin) (h : Noded) (x : NodesPartsState) : Type 0 where
  pub turns : AreInTurn script places h
  pub whole : second_half h ≡ None
  pub nodes : AreAtNodes h
  pub apart : AreNodesApart script from.tables h
  pub standing : AreStanding script from.tables h x
  pub faults : RoseBy from.faults (fault_count (entries h)) x.store.faults
  pub built : IsBuilt script
  pub set : AreSet script places

-- the keeper was asked no more often than the store's entries say
abbrev pub IsAsked : Origin → Noded → NodesPartsState → Type 0
IsAsked from h x = RoseWithin from.asked (store_ask_count (of_part Part.Store (entries h))) x.store.asked

-- no more often than the journal says, and once more, if memory ran out
abbrev pub IsAskedOnceMore : Origin → Noded → NodesPartsState → Type 0
IsAskedOnceMore from h x = RoseWithin from.asked (ask_count (entries h) + 1) x.store.asked

-- what is claimed of the journal of two nodes: it is legal, so no item is older than what its node has not been told of, and each
-- session's entries are the acts of its plan
pub record Obeys (script : Script) (places : Nodings) (told : Option Tables) (h : Noded) : Type 0 where
  pub legal : AreNodesLegal script told places h
  pub items : (start : Tables) → told ≡ Some start → (n : ℕ) (k : Key) → strategy script k.entity ≡ Strategy.ReadWrite →
      NodesCohere script start n k h
  pub order : (s : ℕ) → InOrder (plan_of script s) (own s (entries h))

-- ---- a step of a session

-- the next entry of session s: the act that was due in it, at its node
pub record HasStepped (script : Script) (places : Nodings) (s : ℕ) (old new : Noded) : Type 0 where
  pub entry : NodeEntry
  pub grown : new ≡ entry ∷ old
  pub by : entry.entry.session ≡ Some s
  pub node : entry.node ≡ node_of places s
  pub due : next script s (own s (entries old)) ≡ Some entry.entry.act

-- nothing is due in session s, and no entry was added
pub record IsOver (script : Script) (s : ℕ) (old new : Noded) : Type 0 where
  pub same : new ≡ old
  pub over : next script s (own s (entries new)) ≡ None

-- ---- a delivery

-- the first pair that waited for node n was delivered, by a fence of its key
pub record HasDelivered (script : Script) (n : ℕ) (old new : Noded) : Type 0 where
  pub key : Key
  pub floor : ℕ
  pub locked : Locked
  pub unlocked : Unlocked
  pub grown : new ≡ entry_on n (fence_unlock (length old + 1) key locked unlocked) ∷ entry_on n (fence_lock (length old + 1) key floor locked) ∷ old
  pub first : queue script n old ≡ key ∷ queue script n new

-- nothing waited for node n, and no entry was added
pub record IsDelivered (script : Script) (n : ℕ) (old new : Noded) : Type 0 where
  pub same : new ≡ old
  pub empty : queue script n new ≡ []

-- ---- the whole

-- a run as contracts see it: the entries, the parts, and whether memory ran out in a call
pub record NodesState : Type 0 where
  pub journal : Rattle.hib_nodes.specs.Kept.Kept
  pub parts : NodesPartsState
  pub refused : Bool

-- a run stopped, since memory ran out: the entries so far stand, the run says so, and the keeper was asked once more at most than they say,
-- unless memory had run out before
pub record HasStopped (from : Origin) (old new : NodesState) : Type 0 where
  pub stands : GoesOn (past old.journal) (past new.journal)
  pub asked : old.refused ≡ false → IsAskedOnceMore from (past new.journal) new.parts
  pub refused : new.refused ≡ true
