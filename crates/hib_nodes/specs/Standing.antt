-- The parts of a run of two nodes: what they stand for, and what they owe for an act. Each part stands for its own entries alone.
use Rattle.std.specs.Prelude.{◌≡◌, ◌<◌, ℕ, Bool, true, false, if◌then◌else◌, ◌||◌, ◌==◌, List, [], ◌∷◌, length, Some, None, Option}
use Rattle.hib_base.specs.Tables.{Tables}
use Rattle.hib_journal.specs.Types.{Script, Part, Act, Reply, Entry}
use Rattle.hib_journal.specs.Sessions.{Journal, own}
use Rattle.hib_journal.specs.Legal.{part_of, is_told}
use Rattle.hib_journal.specs.Next.{next}
use Rattle.hib_journal.specs.Lists.{entry_at, of_part, unsaved, IsStoreReply}
use Rattle.hib_journal.specs.Runs.{asks, is_fault}
use Rattle.hib_outside.specs.Causes.{Rose}
use Rattle.hib_store.specs.Stores.{StoreState}
use Rattle.hib_query_cache.specs.Ranked.{Ranked}
use Rattle.hib_session.specs.Session.{own_reply}
use Rattle.hib_split_law.specs.Apart.{is_own, is_of_session}
use Rattle.hib_engines.specs.declared.region.Region.{Region}
use Rattle.hib_engines.specs.Registry.{IsRegistry}
use Rattle.hib_engines.specs.Region.{IsPlaced}
use Rattle.hib_engines.specs.Regions.{region_of}
use Rattle.hib_engines.specs.Store.{IsStored, IsCounted}
use Rattle.hib_engines.specs.Stamps.{AreStamps}
use Rattle.hib_engines.specs.Results.{AreResults}
use Rattle.hib_engines.specs.Counts.{RoseWithin}
use Rattle.hib_engines.specs.Due.{IsDue}
use Rattle.hib_nodes_law.specs.declared.nodes.NodeEntry.{NodeEntry}
use Rattle.hib_nodes_law.specs.Types.{Noded}
use Rattle.hib_nodes_law.specs.Nodes.{entries, of_node}
use Rattle.hib_nodes_law.specs.Legal.{seen_at}

-- the nodes of a run
abbrev pub is_node : ℕ → Bool
is_node n = (n == 1) || (n == 2)

-- what a node has for itself
pub record NodeState : Type 0 where
  pub registry : List (ℕ × ℕ)
  pub regions : List Region

-- what is shared, and what each node has
pub record NodesPartsState : Type 0 where
  pub store : StoreState
  pub stamps : List (Option ℕ)
  pub results : Ranked
  pub first : NodeState
  pub second : NodeState

abbrev pub node_in : NodesPartsState → ℕ → NodeState
node_in x n = if n == 2 then x.second else x.first

-- ---- what they stand for

-- of the entries of a node: its registry for those of the registry, and each region for those of the region
pub record IsAtNode (script : Script) (g : Journal) (x : NodeState) : Type 0 where
  pub registry : IsRegistry x.registry (of_part Part.Registry g)
  pub regions : (m : ℕ) → IsPlaced script m (of_part (Part.Region m) g) (region_of x.regions m)
  pub entities : length x.regions ≡ length script.mapping

-- of the entries of a journal, from these rows if they are told
pub record AreStanding (script : Script) (told : Option Tables) (h : Noded) (x : NodesPartsState) : Type 0 where
  pub store : IsStored told (of_part Part.Store (entries h)) x.store
  pub stamps : AreStamps script (of_part Part.Stamps (entries h)) x.stamps
  pub results : AreResults script (of_part Part.Results (entries h)) x.results
  pub nodes : (n : ℕ) → is_node n ≡ true → IsAtNode script (of_node n h) (node_in x n)

-- all parts are as before, but for the keeper's counts, and the keeper was asked once at most
pub record IsStill (x y : NodesPartsState) : Type 0 where
  pub store : IsCounted x.store y.store
  pub stamps : y.stamps ≡ x.stamps
  pub results : y.results ≡ x.results
  pub first : y.first ≡ x.first
  pub second : y.second ≡ x.second

-- ---- an act that is due

-- a tick is after those of all entries
abbrev pub AreBefore : ℕ → Noded → Type 0
AreBefore now [] = 0 < now
AreBefore now (e ∷ h) = AreBefore now h × (e.entry.tick < now)

abbrev pub entry_on : ℕ → Entry → NodeEntry
entry_on n e = record { node = n; entry = e }

-- over entries that the parts stand for, the act of session s at node n is due at a later tick
pub record IsReady (script : Script) (told : Option Tables) (h : Noded) (n s now : ℕ) (a : Act) (x : NodesPartsState) : Type 0 where
  pub standing : AreStanding script told h x
  pub node : is_node n ≡ true
  pub late : AreBefore now h
  pub due : IsDue script (own s (entries h)) a

-- an act was answered: with the reply that is due over the entries of its part, and the parts stand for the entries with its own
pub record IsAnswered (script : Script) (told : Option Tables) (h : Noded) (n s now : ℕ) (a : Act) (r : Reply) (y : NodesPartsState) : Type 0 where
  pub reply : is_own (part_of a s) ≡ false → is_of_session a ≡ false →
      IsStoreReply script told (of_part (part_of a s) (seen_at (part_of a s) n h)) (entry_at now (Some s) a r)
  pub standing : AreStanding script told (entry_on n (entry_at now (Some s) a r) ∷ h) y

-- the keeper was asked once at most for an act of s, and only if the act asks
abbrev pub IsAskedFor : Noded → ℕ → Act → NodesPartsState → NodesPartsState → Type 0
IsAskedFor h s a x y =
    RoseWithin x.store.asked (if asks (unsaved s (of_part Part.Store (entries h))) a then 1 else 0) y.store.asked

-- an act of s was refused for want of memory, or its answer is let go. All parts are as before, but for the keeper's counts: it was asked
-- only if the act asks, and nothing at all has changed if the reply to the act doesn't hang on the committed rows
pub record IsRefused (h : Noded) (s : ℕ) (a : Act) (x y : NodesPartsState) : Type 0 where
  pub still : IsStill x y
  pub asked : IsAskedFor h s a x y
  pub same : is_told (unsaved s (of_part Part.Store (entries h))) a ≡ false → y ≡ x

-- what is left of the parts if this act was due in session s and was refused, or if none was due
abbrev pub IsRefusedAt : Noded → ℕ → NodesPartsState → NodesPartsState → Option Act → Type 0
IsRefusedAt h s x y None = y ≡ x
IsRefusedAt h s x y (Some a) = IsRefused h s a x y

-- and so by the act that was due, whichever it was
abbrev pub IsStepRefused : Script → Noded → ℕ → NodesPartsState → NodesPartsState → Type 0
IsStepRefused script h s x y = IsRefusedAt h s x y (next script s (own s (entries h)))

-- an act of s was answered, with the session's own reply if it has one; the keeper was asked as the act allows, and it failed if
-- the reply says so
pub record IsTold (script : Script) (told : Option Tables) (h : Noded) (n s now : ℕ) (a : Act) (r : Reply) (x y : NodesPartsState) : Type 0 where
  pub answered : IsAnswered script told h n s now a r y
  pub mine : (q : Reply) → own_reply script (own s (entries h)) a ≡ Some q → r ≡ q
  pub asked : IsAskedFor h s a x y
  pub fault : is_fault r ≡ true → Rose x.store.faults y.store.faults
