use Rattle.std.specs.Prelude.{◌==◌, false}
use Rattle.std.specs.Option.{option_map_or}
use Rattle.std.proofs.Common.{ap, refl, ◌∙◌, eq-eqb, nat_lt}
use Rattle.std.proofs.lemmas.Bool.{lt-ltb}
use Rattle.hib_store.proofs.queries.steps_below.Goals as goal

pub returns-in-Some-clause-others : goal.returns-in-Some-clause-others
returns-in-Some-clause-others c = λ f.
    let n = c.in-Some.target.entity in
    let e = f n (ap (λ x. option_map_or (λ g. g.entity == n) x false) c.in-Some.is ∙ eq-eqb n n refl) in
    ap (λ g. nat_lt g.entity c.args.entities) c.target.view_is ∙ lt-ltb n c.args.entities e
