use Rattle.std.proofs.Common.{map, refl, subst}
use Rattle.std.proofs.lemmas.Result.{IfOk-weaker}
use Rattle.hib_base.specs.Tables.{after_changes}
use Rattle.hib_query_eval.specs.Enough.{IsFirst}
use Rattle.hib_query_eval.proofs.Enough.{given_of}
use Rattle.hib_query_eval.proofs.overlay.given_over.Goals as goal

pub returns : goal.returns
returns c =
    let t = after_changes c.args.changes.now c.args.rows.now in
    let rows = map (λ r. r.now) c.in_ok-met.met.items in
    IfOk-weaker c.selected.result _ _
    (λ l e. given_of c.args.query.now t t c.over-view.result rows l c.over-view.ensures.ordered refl c.over-view.ensures.view
    (subst (λ o. IsFirst o c.args.query.now c.over-view.result rows) c.enough-enough.ensures c.in_ok-met.ensures) e)
    c.selected.ensures
