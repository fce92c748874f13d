use Rattle.std.proofs.Common.{◌≡◌, ◌-◌, ◌++◌, length}
use Rattle.std.specs.List.{filter, range_with_len}
use Rattle.hib_outside.specs.Keeps.{is_listed}
use Rattle.hib_engines.proofs.queries.tables_of.Given as goal

-- those so far, and of the rest those that are read, are all that are read
abbrev pub invariant-loop-number : goal.invariant-loop-number
invariant-loop-number l =
    l.tables.items ++ filter (λ n. is_listed n l.read.items) (range_with_len l.number (length l.script.mapping - l.number))
    ≡ filter (λ n. is_listed n l.read.items) (range_with_len 0 (length l.script.mapping))
