-- A kept journal with bulk lines: the entries in order, and the room that is made for more.
use Rattle.std.specs.Prelude.{ℕ, List, reverse}
use Rattle.hib_bulk.specs.Types.{BulkEntry}
use Rattle.hib_bulk_law.specs.Plain.{Bulked}

pub record Kept : Type 0 where
  -- the oldest first
  pub list : List BulkEntry
  -- how many more entries take no memory
  pub spare : ℕ

-- the newest first, as the definitions over journals see it
unfoldable pub past : Kept → Bulked
past j = reverse j.list
