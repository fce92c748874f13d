use Rattle.std.proofs.Common.{◌≡◌, ◌+◌, ◌++◌, ℕ, List, [], ◌∷◌, true, false, sym, ◌∙◌, subst, take, map, get_or}
use Rattle.std.proofs.lemmas.List.{take_more}
use Rattle.hib_order_law.specs.Orders.{cost}
use Rattle.hib_order_law.specs.declared.step.Step.{Step}
use Rattle.hib_order_tries.specs.Left.{AreLeft, IsAdded, first_of}
use Rattle.hib_order_tries.proofs.Leaving.{none_added, same_added, one_added}
use Rattle.hib_order_tries.proofs.beside.Beginnings.add_at.Goals as goal
use Rattle.hib_order_tries.proofs.beside.Beginnings.add_at.Goals.{then-not-is_at+in_ok-add, else-not-is_at}

pub loop-place-init : goal.loop-place-init
loop-place-init c = none_added c.args.level c.args.at c.args.order.now (map (λ v. v.items) c.args.self.now.there.items) c.args.self.now.beyond

pub loop-place-preserved : goal.loop-place-preserved
loop-place-preserved c =
    let level : ℕ = c.args.level in
    let order : List Step = c.args.order.now in
    let s : Step = get_or c.args.these.now c.loop-place.place (Step.Own 0) in
    let these : List Step = take c.loop-place.place c.args.these.now in
    let more : take (c.loop-place.place + 1) c.args.these.now ≡ these ++ s ∷ [] = take_more c.args.these.now c.loop-place.place (Step.Own 0) c.loop-place-test.true in
    let first : List (List Step) = map (λ v. v.items) c.args.self.now.there.items in
    let now : List (List Step) = map (λ v. v.items) c.loop-place.self.there.items in
    subst (λ x. AreLeft level c.args.at order x first c.args.self.now.beyond (map (λ v. v.items) c.if-not-is_at.self.there.items) c.if-not-is_at.self.beyond) (sym more)
    (elim c.if-not-is_at.branch [
      | then-not-is_at+in_ok-add w ↦
          let price : w.cost.result ≡ cost order (first_of order c.args.at s) = w.cost.ensures ∙ sym (c.requires.before s) in
          let added : IsAdded level (cost order (first_of order c.args.at s)) (first_of order c.args.at s) now c.loop-place.self.beyond
          (map (λ v. v.items) w.add.new.self.there.items) w.add.new.self.beyond =
          subst (λ n. IsAdded level n (first_of order c.args.at s) now c.loop-place.self.beyond (map (λ v. v.items) w.add.new.self.there.items) w.add.new.self.beyond) price w.in_ok-add.ensures in
          subst (λ x. AreLeft level c.args.at order (these ++ s ∷ []) first c.args.self.now.beyond (map (λ v. v.items) x.there.items) x.beyond) (sym w.self-is)
          (one_added level c.args.at order these s first now (map (λ v. v.items) w.add.new.self.there.items) c.args.self.now.beyond c.loop-place.self.beyond w.add.new.self.beyond
          c.loop-place.invariant (sym c.is_at.ensures ∙ w.if-not-is_at.true) added)
      | else-not-is_at w ↦
          subst (λ x. AreLeft level c.args.at order (these ++ s ∷ []) first c.args.self.now.beyond (map (λ v. v.items) x.there.items) x.beyond) (sym w.self-is)
          (same_added level c.args.at order these s first now c.args.self.now.beyond c.loop-place.self.beyond c.loop-place.invariant (sym c.is_at.ensures ∙ w.if-not-is_at.false))
    ])
