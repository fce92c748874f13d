-- What tells outcomes apart in the key of a map.
use Rattle.std.specs.Prelude.{ℕ, List, map}
use Rattle.hib_journal.specs.Types.{Outcome}

abbrev pub mark_of : Outcome → ℕ
mark_of Outcome.Committed = 0
mark_of Outcome.RolledBack = 1
mark_of Outcome.Stale = 2
mark_of Outcome.Duplicate = 3
mark_of Outcome.Fault = 4

abbrev pub marks_of : List Outcome → List ℕ
marks_of outcomes = map mark_of outcomes
