-- What is told of the runs of a script.
use Rattle.std.specs.Prelude.{List, []}
use Rattle.hib_journal.specs.Types.{Script, Entry, Outcome}
use Rattle.hib_order_judge.specs.Verdicts.{verdicts_of}
use Rattle.hib_order_law.specs.Judged.{ending}
use Rattle.hib_order_law.specs.Orders.{onto}
use Rattle.hib_order_law.specs.declared.verdicts.Verdicts.{Verdicts}
pub use Rattle.hib_order_plays.specs.Starts.{new_origin, rows_at_start}

-- what is judged of a run from the script's rows, of which these are the entries, the oldest first
abbrev pub judged_from_start : Script → List Entry → Verdicts
judged_from_start script es = verdicts_of script (rows_at_start script) es

-- how each session has ended
abbrev pub ended_in : Script → List Entry → List Outcome
ended_in script es = ending script (onto es [])
