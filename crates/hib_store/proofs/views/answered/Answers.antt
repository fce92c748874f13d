use Rattle.std.proofs.Common.{subst}
use Rattle.hib_store.specs.Stores.{IsIndexed}
use Rattle.hib_store.proofs.Kept.{listed_of}
use Rattle.hib_store.proofs.views.answered.Goals as goal

pub returns-in_ok-gives-in-Some-clause-listed : goal.returns-in_ok-gives-in-Some-clause-listed
returns-in_ok-gives-in-Some-clause-listed c = λ n told o a f.
    listed_of n c.args.query.now c.args.own.now c.in-Some.index told c.in_ok-gives-in-Some.field-0 o c.in_ok-gives-in-Some.ensures.ordered
    (subst (λ x. IsIndexed n x told) c.in-Some.is a) f c.in_ok-gives-in-Some.ensures.given
