-- A kept journal of two nodes: the entries in order, and the room that is made for more.
use Rattle.std.specs.Prelude.{ℕ, List, reverse}
use Rattle.hib_nodes_law.specs.declared.nodes.NodeEntry.{NodeEntry}
use Rattle.hib_nodes_law.specs.Types.{Noded}

pub record Kept : Type 0 where
  -- the oldest first
  pub list : List NodeEntry
  -- how many more entries take no memory
  pub spare : ℕ

-- the newest first, as the definitions over journals see it
unfoldable pub past : Kept → Noded
past j = reverse j.list
