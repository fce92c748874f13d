-- A read-write region that lines may lock as a whole, as contracts see it.
use Rattle.std.specs.Prelude.{ℕ, Bool, false, ◌||◌, nat_le}
use Rattle.hib_journal.specs.Slot.{Slot, is_positive}
use Rattle.hib_rw_region.specs.Region.{RegionState, slot_in}

pub record BulkState : Type 0 where
  -- how many lines hold the region
  pub holders : ℕ
  -- when it was last given back, or 0
  pub unlock : ℕ
  pub inner : RegionState

-- what dates from this tick is shut out: lines hold the region, or it was given back since
abbrev pub shuts : BulkState → ℕ → Bool
shuts state t = is_positive state.holders || nat_le t state.unlock

-- an item is old if it is shut out
abbrev pub shuts_item : BulkState → Slot → Bool
shuts_item state (Slot.Item r t) = shuts state t
shuts_item state _ = false

abbrev pub has_old : BulkState → ℕ → Bool
has_old state id = shuts_item state (slot_in state.inner id)
