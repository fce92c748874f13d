-- The script that a run of live sessions amounts to.
use Rattle.std.specs.Prelude.{◌∷◌, ◌++◌, [], List, Bool, map, not, if◌then◌else◌}
use Rattle.hib_base.specs.Scripts.{are_over}
use Rattle.hib_journal.specs.Types.{Statement, SessionDef, Script, Entry}
use Rattle.hib_order_law.specs.Orders.{is_plain, steps_in}
use Rattle.hib_order_schedule.specs.Schedules.{runs_of}

-- a session whose last statement ends a transaction: a rollback does if nothing else does
abbrev pub ended : SessionDef → SessionDef
ended d = if are_over d.statements then d else record d { statements = d.statements ++ Statement.Rollback ∷ [] }

-- what was asked, with the runs and kills of these entries as the schedule
abbrev pub recorded : Script → List Entry → Script
recorded asked es = record asked { sessions = map ended asked.sessions; schedule = runs_of (steps_in es) }

-- no run or kill of a schedule repeats an entry: it is an eviction, a restart or a fault
abbrev pub is_foreign : Entry → Bool
is_foreign e = not (is_plain e)
