use Rattle.hib_query_eval.proofs.Searched.{none_stepped}
use Rattle.hib_query_eval.proofs.reading.is_stepped.Goals as goal

pub returns-then-not-steps : goal.returns-then-not-steps
returns-then-not-steps c = none_stepped c.args.condition.now c.args.changes.now (c.steps.ensures c.if-not-steps.true)
