-- How many entries a session has at most, and how many are of none.
use Rattle.std.specs.Prelude.{ℕ, ◌+◌, ◌*◌, [], ◌∷◌, Some, None, Option}
use Rattle.hib_journal.specs.Sessions.{Journal}

-- the entries of a session of n statements, at most. A persist, set or remove pays for itself and for one lock or removal, one write
-- and one act that completes it; a find for Get, Load and Put; a list for Pre, Look, Check, List and Keep; a flush for Pre; a commit
-- for Pre, Commit, Stamp, End and the Begin that may follow; a rollback for one less. So none pays for more than 5 acts, and the
-- session's first Begin is one more
abbrev pub most_entries : ℕ → ℕ
most_entries n = 5 * n + 1

abbrev pub one_if_none : Option ℕ → ℕ
one_if_none None = 1
one_if_none (Some s) = 0

-- the entries of no session: kills, evictions and restarts
abbrev pub outside_count : Journal → ℕ
outside_count [] = 0
outside_count (e ∷ h) = outside_count h + one_if_none e.session
