-- What is claimed of the items of two nodes over one store.
use Rattle.std.specs.Prelude.{◌≡◌, ℕ, ◌+◌, ◌<◌, ◌≤◌, true, [], ◌∷◌, length, Some}
use Rattle.hib_base.specs.Tables.{Tables, row_at}
use Rattle.hib_journal.specs.Types.{Key, Row, Act, Reply, Script}
use Rattle.hib_journal.specs.Sessions.{committed}
use Rattle.hib_journal.specs.Slot.{Slot, slot}
use Rattle.hib_nodes_law.specs.Types.{NodeEntry, Noded}
use Rattle.hib_nodes_law.specs.Nodes.{entries, of_node, changes_key, commit_count, queue, behind, is_from, since, is_sound_at}

-- at each prefix, the empty one and the whole among them; and at each entry, over the journal before it
abbrev pub AtEachPrefix : (Noded → Type 0) → Noded → Type 0
AtEachPrefix P [] = P []
AtEachPrefix P (e ∷ h) = P (e ∷ h) × AtEachPrefix P h

abbrev pub AtEachEntry : (Noded → NodeEntry → Type 0) → Noded → Type 0
AtEachEntry P [] = Unit {0}
AtEachEntry P (e ∷ h) = P h e × AtEachEntry P h

-- an entry that comes after the one at which g ends, if it is a Committed one with a change on k, is one of these or after one of them
abbrev pub IsLater : Key → Noded → Noded → Noded → NodeEntry → Type 0
IsLater k g bs f c = length g ≤ length f → changes_key k f c ≡ true → is_from bs c ≡ true

-- the item of k at node n, if there is one
pub record IsItemOf (script : Script) (start : Tables) (n : ℕ) (k : Key) (h : Noded) (r : Row) : Type 0 where
  -- an entry gave it, and it is the row committed just after that entry
  pub there : (d : NodeEntry) × (g : Noded) × (since n k h ≡ d ∷ g)
  pub row : row_at (committed start (entries (since n k h))) k ≡ Some r
  -- each later commit on k is behind, or after one that is
  pub later : AtEachEntry (IsLater k (since n k h) (behind n k h)) h
  -- there are no more later commits on k than are behind
  pub few : commit_count k h ≤ commit_count k (since n k h) + length (behind n k h)
  -- once the node's queue is empty, so also once both are, it is the committed row
  pub delivered : queue script n h ≡ [] → row_at (committed start (entries h)) k ≡ Some r

abbrev pub IsItemTrue : Script → Tables → ℕ → Key → Noded → Type 0
IsItemTrue script start n k h = (r : Row) (t : ℕ) → slot script.timeout k (of_node n h) ≡ Slot.Item r t → IsItemOf script start n k h r

-- a Hit at node n answers that item
abbrev pub IsHitTrue : Script → ℕ → Key → Noded → NodeEntry → Type 0
IsHitTrue script n k h e = (t : ℕ) (r : Row) → e.node ≡ n → e.entry.act ≡ Act.Get k t → e.entry.reply ≡ Reply.Hit r →
    (u : ℕ) × (slot script.timeout k (of_node n h) ≡ Slot.Item r u) × (u < t)

-- of a read-write key at a node, at every entry at which it is sound there
pub record NodesCohere (script : Script) (start : Tables) (n : ℕ) (k : Key) (h : Noded) : Type 0 where
  pub item : AtEachPrefix (λ g. is_sound_at n k g ≡ true → IsItemTrue script start n k g) h
  pub hit : AtEachEntry (λ g e. is_sound_at n k g ≡ true → IsHitTrue script n k g e) h
