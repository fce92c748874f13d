-- The row of an item.
use Rattle.std.proofs.Common.{◌≡◌, ℕ, ◌++◌, Some, None, Option, refl, ◌∙◌}
use Rattle.hib_journal.specs.Types.{Row}
use Rattle.hib_follow.specs.Shelves.{item_of}
use Rattle.hib_states.specs.Texts.{slot_row}

pub item_row : (o : Option Row) (t : ℕ) → slot_row (item_of o t) ≡ o
item_row None t = refl
item_row (Some r) t = refl
