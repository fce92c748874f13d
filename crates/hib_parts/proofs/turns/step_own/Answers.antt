use Rattle.hib_parts.proofs.Run.{own_entered_due}
use Rattle.hib_parts.proofs.turns.step_own.Goals as goal

pub returns-clause-entered : goal.returns-clause-entered
returns-clause-entered g c = own_entered_due c.last.result c.in_ok-now.now c.args.worker.now c.own.new.self c.last.ensures.last c.in_ok-now.ensures.due c.in_ok-own.ensures.entered
