use Rattle.std.proofs.lemmas.Result.{IfOk-weaker}
use Rattle.hib_merge.proofs.Agreed.{exact}
use Rattle.hib_merge.proofs.agreeing.agree.Goals as goal

pub returns-clause-exact : goal.returns-clause-exact
returns-clause-exact c = IfOk-weaker c.first_torn.result _ _ (λ o m. exact c.args.mine.now c.args.merged.now o m) c.first_torn.ensures
