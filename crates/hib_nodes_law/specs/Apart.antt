-- When the lists of the parts of two nodes, and those of their sessions, make a legal journal.
use Rattle.std.specs.Prelude.{◌≡◌, ℕ, ◌+◌, ◌≤◌, ◌^◌, true, false, if◌then◌else◌, ◌==◌, [], ◌∷◌, ◌++◌, length, Some, None, Option}
use Rattle.hib_base.specs.Tables.{Tables}
use Rattle.hib_journal.specs.Types.{Key, Script, Part}
use Rattle.hib_journal.specs.Sessions.{own, floor}
use Rattle.hib_journal.specs.Legal.{part_of}
use Rattle.hib_journal.specs.Lists.{of_part}
use Rattle.hib_journal.specs.Coherence.{takes}
use Rattle.hib_split_law.specs.Apart.{is_own, IsPartLegal, IsOwnLegal, IsStoreAlone}
use Rattle.hib_nodes_law.specs.Types.{NodeEntry, Noded, Nodings}
use Rattle.hib_nodes_law.specs.Nodes.{entries, of_node, shared_keys, committed_changes, is_fence, queue}
use Rattle.hib_nodes_law.specs.Legal.{node_of, second_half, due_of, seen_at}

-- an entry is of a session at its node, and of no session between the two halves of a fence; or it is the half of a fence that is due
abbrev pub IsTurn : Script → Nodings → Noded → NodeEntry → Option ℕ → Type 0
IsTurn script places h e (Some s) = (node_of places s ≡ e.node) × (second_half h ≡ None)
IsTurn script places h e None =
    (due_of script places h e.node e.entry.tick None (second_half h) ≡ Some e.entry.act) × (part_of e.entry.act 0 ≡ e.entry.part)

pub record IsInTurn (script : Script) (places : Nodings) (h : Noded) (e : NodeEntry) : Type 0 where
  pub tick : e.entry.tick ≡ length h + 1
  pub bounded : e.entry.tick ≤ 2 ^ 62
  pub turn : IsTurn script places h e e.entry.session

abbrev pub AreInTurn : Script → Nodings → Noded → Type 0
AreInTurn script places [] = Unit {0}
AreInTurn script places (e ∷ h) = AreInTurn script places h × IsInTurn script places h e

-- the list of each part is legal by itself, that of a node's own part at each node; and so is the list of each session
pub record AreNodesApart (script : Script) (told : Option Tables) (h : Noded) : Type 0 where
  pub parts : (p : Part) (n : ℕ) → is_own p ≡ false → IsPartLegal script told (of_part p (seen_at p n h))
  pub sessions : (s : ℕ) → IsOwnLegal script s (own s (entries h))

-- what one entry more leaves of the queue of node n: what it has committed comes last, if it is of the other node; and the first half
-- of a fence there takes the first
pub record IsQueueAfter (script : Script) (n : ℕ) (h : Noded) (e : NodeEntry) : Type 0 where
  pub more : is_fence n e ≡ false → queue script n (e ∷ h) ≡ queue script n h ++ (if e.node == n then [] else shared_keys script (committed_changes h e))
  pub less : is_fence n e ≡ true → (k : Key) × (takes k e.entry.act ≡ true) × (queue script n h ≡ k ∷ queue script n (e ∷ h))

-- what the lists of parts tell of the whole: the committed rows and the counts of the store, and the floors of a node
pub record AreOfParts (h : Noded) : Type 0 where
  pub store : IsStoreAlone (entries h) (of_part Part.Store (entries h))
  pub floors : (n now : ℕ) → floor (of_node n h) now ≡ floor (of_part Part.Registry (of_node n h)) now
