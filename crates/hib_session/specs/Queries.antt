-- Whether changes touch a query.
use Rattle.std.specs.Prelude.{ℕ, Bool, false, ◌&&◌, List, nat_lt, Some, None, Option}
use Rattle.std.specs.List.{list_any}
use Rattle.hib_base.specs.Tables.{key_of}
use Rattle.hib_journal.specs.Types.{Change, Query}
use Rattle.hib_journal.specs.Query.{reads}

-- one of them is of a declared entity that the query reads
abbrev pub touches : ℕ → Query → List Change → Bool
touches entities q cs = list_any (λ c. nat_lt (key_of c).entity entities && reads q (key_of c).entity) cs

abbrev pub touching_in : ℕ → Option Query → List Change → Bool
touching_in entities None cs = false
touching_in entities (Some q) cs = touches entities q cs
