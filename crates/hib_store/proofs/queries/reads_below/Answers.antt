use Rattle.std.specs.Prelude.{false}
use Rattle.hib_journal.specs.Query.{mentions}
use Rattle.std.specs.Option.{option_map_or}
use Rattle.std.proofs.Common.{◌==◌, ap, refl, sym, ◌∙◌, eq-eqb, nat_lt}
use Rattle.std.proofs.lemmas.Bool.{lt-ltb, or_left, or_right}
use Rattle.hib_store.proofs.queries.reads_below.Goals as goal

pub returns-in-Some-clause-others : goal.returns-in-Some-clause-others
returns-in-Some-clause-others c = λ f.
    c.mentions_below.ensures.others
    (λ n h. f n (or_right (c.args.query.now.entity == n) (option_map_or (mentions n) c.args.query.now.condition false) (ap (λ q. option_map_or (mentions n) q.condition false) (sym c.query.view_is) ∙ ap (λ x. option_map_or (mentions n) x false) c.in-Some.is ∙ h)))

pub returns-else-query-entities-clause-others : goal.returns-else-query-entities-clause-others
returns-else-query-entities-clause-others c = λ f.
    let n = c.args.query.now.entity in
    let l = f n (or_left (n == n) (option_map_or (mentions n) c.args.query.now.condition false) (eq-eqb n n refl)) in
    ap (λ q. nat_lt q.entity c.args.entities) c.query.view_is ∙ lt-ltb n c.args.entities l
