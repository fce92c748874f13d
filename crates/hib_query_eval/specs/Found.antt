-- A key with its row.
use Rattle.std.specs.Prelude.{if◌then◌else◌, [], ◌∷◌, Some, None, Option, true}
use Rattle.std.specs.Option.{option_map_or}
use Rattle.hib_journal.specs.Types.{Key, Row, Query}
use Rattle.hib_journal.specs.Query.{holds}
use Rattle.hib_base.specs.Keys.{same_key}
use Rattle.hib_base.specs.Tables.{Tables}

abbrev pub row_in : Tables → Key → Option (Key × Row)
row_in [] k = None
row_in (e ∷ es) k = if same_key e.0 k then Some e else row_in es k

-- an entry whose row meets a query's condition
abbrev pub if_met : Query → Tables → Option (Key × Row) → Option (Key × Row)
if_met q t None = None
if_met q t (Some a) = if option_map_or (holds t a.1) q.condition true then Some a else None
