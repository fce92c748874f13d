use Rattle.hib_query_eval.proofs.Views.{lays_all}
use Rattle.hib_query_eval.proofs.own.all_laid.Goals as goal

pub returns : goal.returns
returns c = lays_all c.args.changes.now c.loop-change.change-index c.loop-change.laid c.loop-change-test.false c.loop-change.invariant
