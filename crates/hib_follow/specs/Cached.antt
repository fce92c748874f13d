-- What a key has in its region, whatever the region's strategy.
use Rattle.std.specs.Prelude.{ℕ, Some, None, Option}
use Rattle.hib_journal.specs.Types.{Key, Row, Strategy, Script}
use Rattle.hib_journal.specs.Sessions.{Journal}
use Rattle.hib_journal.specs.Slot.{Slot, slot, history}
use Rattle.hib_journal.specs.Room.{item}
use Rattle.hib_journal.specs.Next.{strategy}

-- an item of a nonstrict or read-only region
abbrev pub item_slot : Option (Row × ℕ) → Slot
item_slot None = Slot.Vacant
item_slot (Some i) = Slot.Item i.0 i.1

abbrev pub cached_by : Strategy → ℕ → Key → Journal → Slot
cached_by Strategy.ReadWrite timeout k h = slot timeout k h
cached_by _ timeout k h = item_slot (item (history k h))

-- what a key has after a journal
abbrev pub cached : Script → Key → Journal → Slot
cached script k h = cached_by (strategy script k.entity) script.timeout k h
