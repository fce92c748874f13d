-- How long a run is at most.
use Rattle.std.specs.Prelude.{ℕ, ◌+◌, List, [], ◌∷◌, length}
use Rattle.hib_journal.specs.Types.{SessionDef}
use Rattle.hib_session.specs.Bound.{most_entries}
pub use Rattle.hib_session.specs.Bound.{one_if_none, outside_count}

-- the entries of a run of any script within the limits, at most
abbrev pub max_entries : ℕ
max_entries = 150000

-- the entries of all sessions, at most
abbrev pub most_in : List SessionDef → ℕ
most_in [] = 0
most_in (d ∷ ds) = most_entries (length d.statements) + most_in ds
