-- A region of items: what contracts see of it, and what each call leaves.
use Rattle.std.specs.Prelude.{ℕ, if◌then◌else◌, nat_eq, nat_lt, List, [], ◌∷◌, ◌++◌, length, Some, None, Option, is_some}
use Rattle.std.specs.Map.{lookup, remove_entry}
use Rattle.hib_journal.specs.Types.{Row}
use Rattle.hib_room_laws.specs.Order.{first_key}

-- how many items there may be, and the items with their stamps by identifier, in order of insertion
pub record ItemsState : Type 0 where
  pub capacity : ℕ
  pub items : List (ℕ × (Row × ℕ))

abbrev pub empty : ℕ → ItemsState
empty capacity = record { capacity = capacity; items = [] }

abbrev pub item_in : ItemsState → ℕ → Option (Row × ℕ)
item_in state id = lookup (nat_eq id) state.items

-- who leaves for a new one: nobody if there is room
abbrev pub oldest_in : ItemsState → Option ℕ
oldest_in state = if nat_lt (length state.items) state.capacity then None else first_key state.items

abbrev pub without : Option ℕ → List (ℕ × (Row × ℕ)) → List (ℕ × (Row × ℕ))
without None items = items
without (Some id) items = remove_entry (nat_eq id) items

-- a new identifier comes last, and the oldest has left a full region
abbrev pub with_new : ℕ → Row → ℕ → ItemsState → ItemsState
with_new id row now state = record state { items = without (oldest_in state) state.items ++ (id, (row, now)) ∷ [] }

-- what storing a row leaves: an item that is there stays
abbrev pub after_put : ℕ → Row → ℕ → ItemsState → ItemsState
after_put id row now state = if is_some (item_in state id) then state else with_new id row now state

abbrev pub after_remove : ℕ → ItemsState → ItemsState
after_remove id state = record state { items = remove_entry (nat_eq id) state.items }

abbrev pub after_clear : ItemsState → ItemsState
after_clear state = record state { items = [] }
