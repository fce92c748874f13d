use Rattle.std.proofs.Common.{◌≡◌, ◌==◌, ◌-◌, ◌++◌, length}
use Rattle.std.specs.List.{filter, list_any, range_with_len}
use Rattle.hib_base.specs.Tables.{key_of}
use Rattle.hib_completion.specs.Completed.{tables_by}
use Rattle.hib_completion.proofs.lists.tables.Given as goal

-- the names so far and those of the rest are those of all
abbrev pub invariant-loop-number : goal.invariant-loop-number
invariant-loop-number l =
    l.names ++ filter (λ n. list_any (λ c. (key_of c).entity == n) l.changes) (range_with_len l.number (length l.mapping - l.number)) ≡ tables_by l.mapping l.changes
