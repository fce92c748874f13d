use Rattle.std.proofs.Common.{◌≡◌, ◌-◌, ◌<◌, ◌≤◌, ℕ, true, List, drop, length, sym, subst, arith}
use Rattle.hib_order_law.specs.declared.step.Step.{Step}
use Rattle.hib_order_schedule.proofs.Rising.{all_rise, tail_at}
use Rattle.hib_order_schedule.specs.Schedules.{rises}
use Rattle.hib_order_schedule.proofs.runs.tail_place.Goals as goal

pub returns-then-not-may_rise-clause-front : goal.returns-then-not-may_rise-clause-front
returns-then-not-may_rise-clause-front c =
    let xs : List Step = c.args.order.now in
    let at : ℕ = length xs - c.loop-gone.gone in
    let l : 0 < at = omega arith in
    let m : at ≤ length xs = omega arith in
    tail_at xs at (Step.Own 0) l m c.may_rise.result c.may_rise.ensures c.if-not-may_rise.true c.loop-gone.invariant

pub returns-clause-front : goal.returns-clause-front
returns-clause-front c =
    let xs : List Step = c.args.order.now in
    let e : length xs - c.loop-gone.gone ≡ 0 = omega arith in
    sym (all_rise xs (subst (λ n. rises (drop n xs) ≡ true) e c.loop-gone.invariant))
