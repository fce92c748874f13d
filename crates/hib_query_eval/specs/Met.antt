-- The rows of an entity that meet a condition.
use Rattle.std.specs.Prelude.{ℕ, Bool, true, ◌&&◌, ◌==◌, Option}
use Rattle.std.specs.Option.{option_map_or}
use Rattle.std.specs.List.{filter}
use Rattle.hib_journal.specs.Types.{Key, Row, Cond}
use Rattle.hib_base.specs.Tables.{Tables}
use Rattle.hib_journal.specs.Query.{holds}

-- whether a row of tables is one of entity n that meets a condition, if there is one
abbrev pub meets : ℕ → Option Cond → Tables → Key × Row → Bool
meets n c t a = (a.0.entity == n) && option_map_or (holds t a.1) c true

abbrev pub met : ℕ → Option Cond → Tables → Tables
met n c t = filter (meets n c t) t
