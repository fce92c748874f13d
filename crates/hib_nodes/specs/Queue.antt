-- The queues of the nodes as they are kept: the keys that ever came into one, and how many of the first are delivered.
use Rattle.std.specs.Prelude.{◌≡◌, ℕ, true, if◌then◌else◌, ◌==◌, List, drop}
use Rattle.hib_journal.specs.Types.{Key, Script}
use Rattle.hib_nodes_law.specs.Types.{Noded}
use Rattle.hib_nodes_law.specs.Nodes.{pairs, fence_count}
use Rattle.hib_nodes.specs.Standing.{is_node}

pub record QueueState : Type 0 where
  pub pairs : List Key
  pub taken : ℕ
  -- for how many more there is room
  pub spare : ℕ

-- those that wait, the oldest first
abbrev pub waiting : QueueState → List Key
waiting q = drop q.taken q.pairs

-- it is the queue of node n
pub record IsQueue (script : Script) (n : ℕ) (h : Noded) (q : QueueState) : Type 0 where
  pub pairs : q.pairs ≡ pairs script n h
  pub taken : q.taken ≡ fence_count n h

pub record QueuesState : Type 0 where
  pub first : QueueState
  pub second : QueueState

abbrev pub queue_in : QueuesState → ℕ → QueueState
queue_in q n = if n == 2 then q.second else q.first

abbrev pub with_queue : ℕ → QueueState → QueuesState → QueuesState
with_queue n y q = if n == 2 then record q { second = y } else record q { first = y }

-- the node that hears of what node n commits
abbrev pub other_node : ℕ → ℕ
other_node n = if n == 2 then 1 else 2

abbrev pub AreQueues : Script → Noded → QueuesState → Type 0
AreQueues script h q = (n : ℕ) → is_node n ≡ true → IsQueue script n h (queue_in q n)

-- what waits is as before
pub record AreWaiting (q r : QueuesState) : Type 0 where
  pub first_pairs : r.first.pairs ≡ q.first.pairs
  pub first_taken : r.first.taken ≡ q.first.taken
  pub second_pairs : r.second.pairs ≡ q.second.pairs
  pub second_taken : r.second.taken ≡ q.second.taken
