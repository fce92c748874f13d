use Rattle.std.proofs.Common.{◌≡◌, true, map, subst, sym}
use Rattle.std.proofs.lemmas.Result.{IfOk-weaker}
use Rattle.hib_base.specs.Tables.{in_order}
use Rattle.hib_outside.proofs.Orders.{in_order_changes}
use Rattle.hib_query_eval.specs.Enough.{HasEntity}
use Rattle.hib_query_eval.proofs.Overlays.{walked_first}
use Rattle.hib_query_eval.proofs.searches.listed_over.Goals as goal

pub found-requires-clause-ordered : goal.found-requires-clause-ordered
found-requires-clause-ordered c = subst (λ t. in_order t ≡ true) (sym c.requires.view) (in_order_changes c.args.changes.now c.args.rows.now c.requires.ordered)

pub returns : goal.returns
returns c =
    IfOk-weaker c.walked.result _ _
    (λ v e. walked_first c.args.query.now c.args.rows.now c.args.changes.now c.args.laid.now c.requires.ordered c.requires.laid c.args.view.now c.of_entity-own.result.now
    c.of_entity-left.result.now (map (λ r. r.now) v.items) c.args.most c.requires.view c.of_entity-own.ensures.ordered c.of_entity-own.ensures.has_all c.of_entity-left.ensures.ordered
    (subst (λ s. HasEntity c.args.query.now.entity s c.of_entity-left.result.now) c.as_slice-2.ensures.rows c.of_entity-left.ensures.has_all) e)
    c.walked.ensures
