use Rattle.std.proofs.Common.{◌∙◌}
use Rattle.std.proofs.lemmas.Result.{IfOk-weaker}
use Rattle.hib_query_eval.proofs.Enough.{given_first}
use Rattle.hib_query_eval.proofs.listing.gives.Goals as goal

pub returns : goal.returns
returns c = IfOk-weaker c.selected.result _ _
    (λ l e. given_first c.args.query.now c.args.rows.now _ _ _ c.enough.result l c.requires c.as_slice-2.ensures (c.of-view.ensures ∙ c.as_slice.ensures)
    c.enough.ensures c.in_ok-met.ensures e)
    c.selected.ensures
