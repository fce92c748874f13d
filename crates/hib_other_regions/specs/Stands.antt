-- That a region's items are those that a journal gives it.
use Rattle.std.specs.Prelude.{◌≡◌, ℕ, Option, option_map}
use Rattle.hib_journal.specs.Sessions.{Journal}
use Rattle.hib_journal.specs.Slot.{history}
use Rattle.hib_journal.specs.Room.{key, item}
use Rattle.hib_room_laws.specs.Order.{IsInOrder, IsUpTo}
use Rattle.hib_room_laws.specs.Elsewhere.{last_of}
use Rattle.hib_other_regions.specs.Items.{ItemsState, item_in}

-- the stamp of an identifier's item
abbrev pub stamp_of : ItemsState → ℕ → Option ℕ
stamp_of state id = option_map (λ p. p.1) (item_in state id)

-- each identifier has the item that the journal gives it, stamps rise along the list, and none is above the region's last tick
pub record IsItems (state : ItemsState) (n : ℕ) (h : Journal) : Type 0 where
  pub same : (id : ℕ) → item_in state id ≡ item (history (key n id) h)
  pub order : IsInOrder (stamp_of state) state.items
  pub before : (id : ℕ) → IsUpTo (last_of n h) (stamp_of state id)
