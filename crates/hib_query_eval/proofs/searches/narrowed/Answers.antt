use Rattle.std.proofs.lemmas.Result.{IfOk-weaker}
use Rattle.hib_query_eval.proofs.Searched.{all_met}
use Rattle.hib_query_eval.proofs.searches.narrowed.Goals as goal

pub returns-in-Some : goal.returns-in-Some
returns-in-Some c =
    IfOk-weaker c.candidates.result _ _ (λ o h. all_met (λ v. v.items) c.args.columns.now c.args.query.now c.in-Some.condition o c.in-Some.is h) c.candidates.ensures
