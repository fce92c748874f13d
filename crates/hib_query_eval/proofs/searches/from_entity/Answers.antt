use Rattle.std.proofs.Common.{◌≡◌, true, subst, sym}
use Rattle.std.proofs.lemmas.List.{take_rest}
use Rattle.hib_base.specs.Tables.{in_order}
use Rattle.hib_query_eval.specs.Enough.{HasEntity}
use Rattle.hib_query_eval.proofs.Enough.{from_entity, in_order_drop}
use Rattle.hib_query_eval.proofs.searches.from_entity.Goals as goal

pub returns-clause-ordered : goal.returns-clause-ordered
returns-clause-ordered c =
    subst (λ t. in_order t ≡ true) (sym (take_rest c.args.rows.now c.place-first.result)) (in_order_drop c.place-first.result c.args.rows.now c.requires)

pub returns-clause-has_all : goal.returns-clause-has_all
returns-clause-has_all c = subst (HasEntity c.args.entity c.args.rows.now) (sym (take_rest c.args.rows.now c.place-first.result))
    (from_entity c.args.entity c.args.rows.now c.place-first.result c.place-first.ensures.place)
