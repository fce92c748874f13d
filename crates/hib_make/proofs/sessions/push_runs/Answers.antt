use Rattle.hib_make.specs.Sessions.{run}
use Rattle.hib_make.proofs.Many.{many_none, many_more}
use Rattle.hib_make.proofs.sessions.push_runs.Goals as goal

pub loop-place-init : goal.loop-place-init
loop-place-init c = many_none (λ k x. run x) c.args.draws.now c.args.orders.now.items

pub loop-place-preserved : goal.loop-place-preserved
loop-place-preserved c =
    many_more (λ k x. run x) c.loop-place._place c.args.draws.now c.args.orders.now.items c.loop-place.orders.items c.push_run.new.orders.items c.loop-place.draws
    c.push_run.new.draws c.loop-place.invariant c.in_ok-push_run.ensures.made c.in_ok-push_run.ensures.state
