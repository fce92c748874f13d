use Rattle.hib_query_eval.proofs.Views.{lays_more}
use Rattle.hib_query_eval.proofs.own.one_more.Goals as goal

pub returns : goal.returns
returns c = λ cs x. lays_more cs c.args.change.now c.args.laid _ c.in_ok-note_gone.ensures c.in_ok-left.ensures x
