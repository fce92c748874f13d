use Rattle.std.proofs.Common.{◌≡◌, drop}
use Rattle.std.specs.List.{list_any}
use Rattle.hib_base.specs.Tables.{key_of}
use Rattle.hib_journal.specs.Query.{mentions}
use Rattle.hib_query_eval.proofs.reading.is_stepped.Given as goal

-- no change so far touches a table to which the condition steps
abbrev pub invariant-loop-change : goal.invariant-loop-change
invariant-loop-change l =
    list_any (λ c. mentions (key_of c).entity l.condition) l.changes ≡ list_any (λ c. mentions (key_of c).entity l.condition) (drop l.change-index l.changes)
