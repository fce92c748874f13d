-- What contracts see of a journal with collections: its entries, the oldest first, and for how many more there is room.
use Rattle.std.specs.Prelude.{ℕ, List, reverse}
use Rattle.hib_collections_law.specs.declared.entries.GatherEntry.{GatherEntry}
use Rattle.hib_collections_law.specs.Types.{Gathered}

pub record Kept : Type 0 where
  pub list : List GatherEntry
  pub spare : ℕ

-- the entries, the newest first
unfoldable pub past : Kept → Gathered
past j = reverse j.list
