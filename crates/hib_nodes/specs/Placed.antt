-- The node of each session, by its number.
use Rattle.std.specs.Prelude.{◌≡◌, ◌<◌, ℕ, List, length, slice_get, Some}
use Rattle.hib_nodes_law.specs.Types.{Nodings}
use Rattle.hib_nodes_law.specs.Legal.{node_of}

pub record ArePlaced (places : Nodings) (count : ℕ) (nodes : List ℕ) : Type 0 where
  pub all : length nodes ≡ count
  pub each : (s : ℕ) → s < count → slice_get nodes s ≡ Some (node_of places s)
