-- What a play begins with, and of what it consists.
use Rattle.std.specs.Prelude.{Bool, ◌||◌, [], is_some, Some}
use Rattle.std.specs.List.{list_all}
use Rattle.hib_base.specs.Start.{start}
use Rattle.hib_base.specs.Tables.{Tables}
use Rattle.hib_journal.specs.Types.{Script, Entry}
use Rattle.hib_journal.specs.Sessions.{Journal}
use Rattle.hib_core.specs.Standing.{Origin, origin_over}
use Rattle.hib_order_law.specs.Orders.{is_killing}

-- the committed rows at the start: the script's
abbrev pub rows_at_start : Script → Tables
rows_at_start script = start script.mapping [] script.rows

-- a new keeper: it keeps no row, has never failed and was asked for nothing
abbrev pub new_origin : Script → Origin
new_origin script = origin_over script (Some []) 0 0

-- each entry is of a session, or kills one: none evicts or restarts
abbrev pub are_steps : Journal → Bool
are_steps h = list_all (λ (e : Entry). is_some e.session || is_killing e.act) h
