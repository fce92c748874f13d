use Rattle.std.proofs.Common.{◌≡◌, ◌==◌, drop}
use Rattle.std.specs.List.{list_any}
use Rattle.hib_base.specs.Tables.{key_of}
use Rattle.hib_completion.proofs.lists.touched.Given as goal

-- no change so far is of the entity
abbrev pub invariant-loop-change : goal.invariant-loop-change
invariant-loop-change l =
    list_any (λ c. (key_of c).entity == l.number) l.changes ≡ list_any (λ c. (key_of c).entity == l.number) (drop l.change-index l.changes)
