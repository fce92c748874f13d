-- The parts with another state of one node.
use Rattle.std.specs.Prelude.{◌≡◌, ℕ, true, false, if◌then◌else◌, ◌==◌}
use Rattle.hib_nodes.specs.Standing.{NodeState, NodesPartsState, is_node, node_in}

abbrev pub with_node : ℕ → NodeState → NodesPartsState → NodesPartsState
with_node n y x = if n == 2 then record x { second = y } else record x { first = y }

-- what is shared is as before
pub record AreShared (x y : NodesPartsState) : Type 0 where
  pub store : y.store ≡ x.store
  pub stamps : y.stamps ≡ x.stamps
  pub results : y.results ≡ x.results

-- nothing but node n has changed
pub record IsAlone (n : ℕ) (x y : NodesPartsState) : Type 0 where
  pub shared : AreShared x y
  pub others : (m : ℕ) → is_node m ≡ true → (n == m) ≡ false → node_in y m ≡ node_in x m
