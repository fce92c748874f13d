use Rattle.std.proofs.Common.{arith}
use Rattle.hib_query_eval.proofs.Enough.{before_next, in_order_take}
use Rattle.hib_query_eval.proofs.searches.of_entity.Goals as goal

pub returns-in-Some-clause-ordered : goal.returns-in-Some-clause-ordered
returns-in-Some-clause-ordered c = in_order_take c.place-behind.result c.from_entity-rest.result.now c.from_entity-rest.ensures.ordered

pub returns-in-Some-clause-has_all : goal.returns-in-Some-clause-has_all
returns-in-Some-clause-has_all c =
    before_next c.args.entity c.in-Some.next c.args.rows.now c.from_entity-rest.result.now c.place-behind.result (omega (arith, c.in-Some.ensures.1, c.entity.view_is))
    c.from_entity-rest.ensures.ordered c.from_entity-rest.ensures.has_all c.place-behind.ensures.place
