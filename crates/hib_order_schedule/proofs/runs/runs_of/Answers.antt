use Rattle.std.proofs.Common.{◌-◌, ℕ, List, drop, take, length, refl}
use Rattle.hib_order_law.specs.declared.step.Step.{Step}
use Rattle.hib_order_schedule.proofs.Rows.{run_from}
use Rattle.hib_order_schedule.proofs.runs.runs_of.Goals as goal

pub loop-done-preserved-in-Own : goal.loop-done-preserved-in-Own
loop-done-preserved-in-Own c =
    let xs : List Step = c.args.order.now in
    let at : ℕ = c.loop-done.done in
    let ys : List Step = take (length xs - at) (drop at xs) in
    let more = run_from xs ys at c.steps_in_row-steps.result c.in-Own.session (Step.Own 0) c.loop-done.runs.items c.push.new.self.items c.loop-done-test.true c.in-Own.is refl
    c.steps_in_row-steps.ensures.inside c.steps_in_row-steps.ensures.row c.in_ok-push-in-Own.ensures.items c.loop-done.invariant.made in
    record { inside = more.0; made = more.1 }
