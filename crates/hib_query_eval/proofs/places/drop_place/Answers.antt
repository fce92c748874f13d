use Rattle.std.proofs.Common.{false, subst}
use Rattle.std.specs.BTreeSet.{Updates}
use Rattle.hib_query_eval.proofs.Compared.{dropped}
use Rattle.hib_query_eval.proofs.Derived.{place_cmp_is}
use Rattle.hib_query_eval.proofs.places.drop_place.Goals as goal

pub returns : goal.returns
returns c = λ i d. dropped i d c.args.places.now.keys c.remove.new.self.keys c.args.place
    ((subst (λ R. Updates R c.args.places.now c.remove.new.self c.args.place false) place_cmp_is c.remove.ensures.updates).0)
