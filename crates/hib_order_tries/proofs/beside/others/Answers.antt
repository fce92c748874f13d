use Rattle.std.specs.Prelude.{slice_index_or}
use Rattle.std.proofs.Common.{◌≡◌, ◌+◌, ◌++◌, ◌-◌, ◌<◌, ◌≤◌, ℕ, suc, false, List, [], ◌∷◌, sym, ap, ◌∙◌, subst, arith, drop, length, map, refl}
use Rattle.hib_order_law.specs.declared.step.Step.{Step}
use Rattle.hib_order_law.specs.declared.step.Turn.{Turn}
use Rattle.hib_order_tries.specs.Tail.{IsTail}
use Rattle.hib_order_tries.specs.Left.{AreBeside, AreLeft, AreOpen}
use Rattle.hib_order_tries.proofs.Tails.{dropped_all, tail-few, tail_back}
use Rattle.hib_order_tries.proofs.Leaving.{beside_added, beside_none}
use Rattle.hib_order_tries.proofs.beside.others.Goals as goal

pub loop-gone-init : goal.loop-gone-init
loop-gone-init c = λ at e.
    let order : List Step = c.args.order.now in
    let turns : List Turn = c.args.turns.now in
    let end : ℕ = length order in
    let same : end ≡ at = omega arith in
    let own : List Step = c.new-tail.result.steps.items in
    let kills : List Step = c.kills_at.result.now in
    let new : List (List Step) = map (λ v. v.items) c.leave.new.self.there.items in
    let tail : IsTail (drop end order) own c.new-tail.result.first c.new-tail.result.switches =
    subst (λ x. IsTail x own c.new-tail.result.first c.new-tail.result.switches) (sym (dropped_all end order (omega arith))) c.new-tail.ensures in
    let opened : AreOpen c.args.may_kill order turns end kills =
    subst (λ x. AreOpen c.args.may_kill order turns end x) (sym (c.kills_at.ensures ∙ ap (λ l. slice_index_or (map (λ v. v.items) l) end []) c.as_slice-kills.ensures.value))
    (c.in_ok-openings.ensures end (omega arith)) in
    let left : AreLeft c.args.level end order (own ++ kills) [] false new c.leave.new.self.beyond =
    subst (λ x. AreLeft c.args.level end order (own ++ kills) (map (λ v. v.items) x) false new c.leave.new.self.beyond) c.new-found.ensures.there
    (subst (λ b. AreLeft c.args.level end order (own ++ kills) (map (λ v. v.items) c.new-found.result.there.items) b new c.leave.new.self.beyond) c.new-found.ensures.beyond c.in_ok-leave.ensures) in
    subst (λ k. IsTail (drop k order) own c.new-tail.result.first c.new-tail.result.switches × AreBeside c.args.may_kill c.args.level k order turns new c.leave.new.self.beyond) same (
      tail,
      beside_added c.args.may_kill c.args.level end order turns own kills c.new-tail.result.first c.new-tail.result.switches [] new false c.leave.new.self.beyond (omega arith) tail opened
          (beside_none c.args.may_kill c.args.level (suc end) order turns (omega arith)) left,
    )

pub take-requires : goal.take-requires
take-requires c =
    let at : ℕ = length c.args.order.now - c.loop-gone.gone in
    let t : IsTail (drop at c.args.order.now) c.loop-gone.tail.steps.items c.loop-gone.tail.first c.loop-gone.tail.switches = (c.loop-gone.invariant at (omega arith)).0 in
    let l = tail-few c.args.order.now c.loop-gone.tail.steps.items c.loop-gone.tail.first c.loop-gone.tail.switches at t in
    omega (arith, l)

pub loop-gone-preserved : goal.loop-gone-preserved
loop-gone-preserved c = λ at e.
    let order : List Step = c.args.order.now in
    let turns : List Turn = c.args.turns.now in
    let p : ℕ = length order - 1 - c.loop-gone.gone in
    let same : p ≡ at = omega arith in
    let inside : p < length order = omega arith in
    let own : List Step = c.take.new.self.steps.items in
    let kills : List Step = c.kills_at-in-loop-gone.result.now in
    let there : List (List Step) = map (λ v. v.items) c.loop-gone.found.there.items in
    let new : List (List Step) = map (λ v. v.items) c.leave-in-loop-gone.new.self.there.items in
    let before = c.loop-gone.invariant (suc p) (omega arith) in
    let tail : IsTail (drop p order) own c.take.new.self.first c.take.new.self.switches =
    subst (λ x. IsTail x own c.take.new.self.first c.take.new.self.switches) (tail_back order p p (Step.Own 0) refl inside) (c.in_ok-take.ensures (drop (suc p) order) before.0) in
    let opened : AreOpen c.args.may_kill order turns p kills =
    subst (λ x. AreOpen c.args.may_kill order turns p x) (sym (c.kills_at-in-loop-gone.ensures ∙ ap (λ l. slice_index_or (map (λ v. v.items) l) p []) c.as_slice-kills.ensures.value))
    (c.in_ok-openings.ensures p (omega arith)) in
    let left : AreLeft c.args.level p order (own ++ kills) there c.loop-gone.found.beyond new c.leave-in-loop-gone.new.self.beyond = c.in_ok-leave-2.ensures in
    subst (λ k. IsTail (drop k order) own c.take.new.self.first c.take.new.self.switches × AreBeside c.args.may_kill c.args.level k order turns new c.leave-in-loop-gone.new.self.beyond) same (
      tail,
      beside_added c.args.may_kill c.args.level p order turns own kills c.take.new.self.first c.take.new.self.switches there new c.loop-gone.found.beyond c.leave-in-loop-gone.new.self.beyond
          (omega arith) tail opened before.1 left,
    )

pub returns : goal.returns
returns c = (c.loop-gone.invariant c.args.from (omega arith)).1
