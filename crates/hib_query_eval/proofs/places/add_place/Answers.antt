use Rattle.std.proofs.Common.{true, subst}
use Rattle.std.specs.BTreeSet.{Updates}
use Rattle.hib_query_eval.proofs.Compared.{added}
use Rattle.hib_query_eval.proofs.Derived.{place_cmp_is}
use Rattle.hib_query_eval.proofs.places.add_place.Goals as goal

pub returns : goal.returns
returns c = λ i d. added i d c.args.places.now.keys c.insert.new.self.keys c.args.place
    ((subst (λ R. Updates R c.args.places.now c.insert.new.self c.args.place true) place_cmp_is c.in_ok-insert.ensures.updates).0)
