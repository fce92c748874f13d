use Rattle.std.proofs.Common.{map, subst}
use Rattle.hib_store.specs.Stores.{IsIndexed}
use Rattle.hib_store.proofs.Kept.{met_told}
use Rattle.hib_store.proofs.views.rows_met.Goals as goal

pub returns-in_ok-rows_met-in-Some-clause-met : goal.returns-in_ok-rows_met-in-Some-clause-met
returns-in_ok-rows_met-in-Some-clause-met c = λ n told o a b.
    met_told n c.args.entity c.args.condition.now c.in-Some.index (map (λ r. r.now) c.in_ok-rows_met-in-Some.field-0.items) told o c.in_ok-rows_met-in-Some.ensures.ordered
    (subst (λ i. IsIndexed n i told) c.in-Some.is a) b c.in_ok-rows_met-in-Some.ensures.met
