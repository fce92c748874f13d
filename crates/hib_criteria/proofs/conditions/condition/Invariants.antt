use Rattle.std.proofs.Common.{◌≡◌, ◌++◌, vec_len}
use Rattle.hib_criteria.specs.Query.{parts_all}
use Rattle.hib_criteria.proofs.conditions.condition.Given as goal

abbrev pub decreases-loop-node : goal.decreases-loop-node
decreases-loop-node l = vec_len l.rest

abbrev pub invariant-loop-node : goal.invariant-loop-node
invariant-loop-node l = l.rest.items ++ parts_all l.conds ≡ l.fn.nodes
