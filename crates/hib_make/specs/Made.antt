-- The script that is made of a seed.
use Rattle.std.specs.Prelude.{ℕ}
use Rattle.hib_base.specs.declared.scripts.Script.{Script}
use Rattle.hib_make.specs.Draws.{seeded}
use Rattle.hib_make.specs.Entities.{made_mapping}
use Rattle.hib_make.specs.Rows.{Rows, made_rows}
use Rattle.hib_make.specs.Queries.{made_queries}
use Rattle.hib_make.specs.Sessions.{Sessions, Orders, made_sessions, made_schedule}

abbrev pub script : Rows → Sessions → Orders → Script
script rows sessions schedule = record {
  timeout = 1000;
  results = 20;
  mapping = made_mapping;
  rows = rows.made;
  queries = made_queries;
  sessions = sessions.made;
  schedule = schedule.made;
}

abbrev pub with_sessions : Rows → Sessions → Script
with_sessions rows sessions = script rows sessions (made_schedule sessions.state)

abbrev pub with_rows : Rows → Script
with_rows rows = with_sessions rows (made_sessions rows.state)

-- the rows are drawn first, then the sessions, then the schedule
unfoldable pub made : ℕ → Script
made seed = with_rows (made_rows (seeded seed))
