use Rattle.hib_parts.proofs.Run.{entered_due}
use Rattle.hib_parts.proofs.turns.step_stamps.Goals as goal

pub returns-clause-entered : goal.returns-clause-entered
returns-clause-entered g c = entered_due c.last.result c.last-2.result c.in_ok-now.now c.args.stamps.now c.serve.new.self c.args.worker.now c.serve.new.worker c.last.ensures.last c.last-2.ensures.last c.in_ok-now.ensures.due c.in_ok-serve.ensures.entered
