use Rattle.std.proofs.Common.{◌≡◌, ◌-◌, ◌<◌, ℕ, suc, List, arith, drop, length, subst}
use Rattle.hib_order_law.specs.declared.step.Step.{Step}
use Rattle.hib_order_tries.specs.Tail.{IsTail}
use Rattle.hib_order_tries.proofs.Tails.{tail-few, tail_back}
use Rattle.hib_order_tries.proofs.beside.switches.Goals as goal

pub take-requires : goal.take-requires
take-requires c =
    let at : ℕ = length c.args.order.now - c.loop-gone.gone in
    let t : IsTail (drop at c.args.order.now) c.loop-gone.tail.steps.items c.loop-gone.tail.first c.loop-gone.tail.switches = c.loop-gone.invariant at (omega arith) in
    let l = tail-few c.args.order.now c.loop-gone.tail.steps.items c.loop-gone.tail.first c.loop-gone.tail.switches at t in
    omega (arith, l)

pub loop-gone-preserved : goal.loop-gone-preserved
loop-gone-preserved c = λ at e.
    let order : List Step = c.args.order.now in
    let p : ℕ = length order - 1 - c.loop-gone.gone in
    let same : p ≡ at = omega arith in
    let inside : at < length order = omega arith in
    subst (λ x. IsTail x c.take.new.self.steps.items c.take.new.self.first c.take.new.self.switches) (tail_back order p at (Step.Own 0) same inside)
    (c.in_ok-take.ensures (drop (suc at) order) (c.loop-gone.invariant (suc at) (omega arith)))

pub returns : goal.returns
returns c =
    let t : IsTail (drop 0 c.args.order.now) c.loop-gone.tail.steps.items c.loop-gone.tail.first c.loop-gone.tail.switches = c.loop-gone.invariant 0 (omega arith) in
    t.count
