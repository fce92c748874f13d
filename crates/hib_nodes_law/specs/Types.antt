-- The types of two nodes, passed on from one place, and their journal. Declares nothing but names for lists.
use Rattle.std.specs.Prelude.{ℕ, List}
pub use Rattle.hib_nodes_law.specs.declared.nodes.NodeEntry.{NodeEntry}
pub use Rattle.hib_nodes_law.specs.declared.nodes.NodeOrder.{NodeOrder}

-- the entries of both nodes, the newest first, as in a journal
abbrev pub Noded : Type 0
Noded = List NodeEntry

-- sessions with their nodes
abbrev pub Nodings : Type 0
Nodings = List (ℕ × ℕ)
