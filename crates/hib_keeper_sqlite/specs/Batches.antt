-- What a batch of changes leaves of what a table tells.
use Rattle.std.specs.Prelude.{◌≡◌, ◌≢◌, ◌<◌, ◌^◌, None, Option}
use Rattle.std.specs.Option.{option_map}
use Rattle.hib_base.specs.Tables.{Tables}
use Rattle.hib_sqlite_rows.specs.Told.{Told, at_rest, rolled_back}
use Rattle.hib_sqlite_rows.specs.Shown.{IsInRange}
use Rattle.hib_keeper_sqlite.specs.Types.{Key, Row, Change}

-- what SQL can keep of a change
abbrev pub IsKeepable : Change → Type 0
IsKeepable (Change.Insert k r) = IsInRange k r
IsKeepable (Change.Update k v r) = IsInRange k r
IsKeepable (Change.Delete k v) = k.id < 2 ^ 63

abbrev pub IsKeepableEntry : Key × Row → Type 0
IsKeepableEntry e = IsInRange e.0 e.1

-- a change meets no row if it adds one, and else a row
abbrev pub Meets : Change → Option Row → Type 0
Meets (Change.Insert k r) found = found ≡ None
Meets (Change.Update k v r) found = found ≢ None
Meets (Change.Delete k v) found = found ≢ None

-- outside a transaction: a rollback would change nothing
abbrev pub IsAtRest : Option Told → Type 0
IsAtRest told = rolled_back told ≡ told

-- a change of the rows that is committed
abbrev pub made : (Tables → Tables) → Option Told → Option Told
made f = option_map {T = Told} (λ t. at_rest (f t.now))
