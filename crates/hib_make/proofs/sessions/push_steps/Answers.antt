use Rattle.hib_make.specs.Sessions.{step}
use Rattle.hib_make.proofs.Many.{many_none, many_more}
use Rattle.hib_make.proofs.sessions.push_steps.Goals as goal

pub loop-i-init : goal.loop-i-init
loop-i-init c = many_none (step c.args.session) c.args.draws.now c.args.statements.now.items

pub loop-i-preserved : goal.loop-i-preserved
loop-i-preserved c =
    many_more (step c.args.session) c.loop-i.i c.args.draws.now c.args.statements.now.items c.loop-i.statements.items c.push_step.new.statements.items c.loop-i.draws
    c.push_step.new.draws c.loop-i.invariant c.in_ok-push_step.ensures.made c.in_ok-push_step.ensures.state
