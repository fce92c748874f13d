use Rattle.std.proofs.Common.{◌∙◌}
use Rattle.std.proofs.lemmas.Result.{IfOk-weaker}
use Rattle.hib_query_eval.proofs.Laid.{read_gives}
use Rattle.hib_store.proofs.views.listed.Goals as goal

pub returns : goal.returns
returns c m o r = IfOk-weaker c.gives.result _ _
    (λ l e. e ∙ read_gives c.args.query.now c.args.changes.now m c.args.rows c.in_ok-view.view o r c.in_ok-view.ensures.rows) c.gives.ensures
