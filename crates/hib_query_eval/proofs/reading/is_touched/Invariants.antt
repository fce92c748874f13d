use Rattle.std.proofs.Common.{◌≡◌, drop}
use Rattle.std.specs.List.{list_any}
use Rattle.hib_base.specs.Tables.{key_of}
use Rattle.hib_journal.specs.Query.{reads}
use Rattle.hib_query_eval.proofs.reading.is_touched.Given as goal

-- no change so far touches a table that is read
abbrev pub invariant-loop-change : goal.invariant-loop-change
invariant-loop-change l =
    list_any (λ c. reads l.query (key_of c).entity) l.changes ≡ list_any (λ c. reads l.query (key_of c).entity) (drop l.change-index l.changes)
