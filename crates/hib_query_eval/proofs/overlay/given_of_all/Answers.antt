use Rattle.std.proofs.Common.{map, refl, subst}
use Rattle.std.proofs.lemmas.Result.{IfOk-weaker}
use Rattle.hib_query_eval.specs.Enough.{IsFirst}
use Rattle.hib_query_eval.proofs.Enough.{given_of}
use Rattle.hib_query_eval.proofs.overlay.given_of_all.Goals as goal

pub returns : goal.returns
returns c =
    let t = c.args.rows.now in
    let rows = map (λ r. r.now) c.in_ok-met.met.items in
    IfOk-weaker c.selected.result _ _
    (λ l e. given_of c.args.query.now t t t rows l c.requires.ordered refl refl (subst (λ o. IsFirst o c.args.query.now t rows) c.enough-enough.ensures c.in_ok-met.ensures) e)
    c.selected.ensures
