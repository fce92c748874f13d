use Rattle.std.specs.Prelude.{OnOk}
use Rattle.std.proofs.Common.{◌≡◌, ◌≤◌, ◌++◌, List, Ok, Err, Result, length, subst, sym, arith, map}
use Rattle.hib_order_law.specs.declared.step.Step.{Step}
use Rattle.hib_order_tries.specs.Left.{AreLeft}
use Rattle.hib_order_tries.proofs.Tails.{switches-few}
use Rattle.hib_order_tries.proofs.Leaving.{both_added}
use Rattle.hib_order_tries.proofs.beside.Beginnings.leave.Goals as goal

on_ok : {V E P Q : Type 0} (r : Result V E) → (P → Q) → OnOk r P → OnOk r Q
on_ok (Ok v) f p = f p
on_ok (Err e) f p = p

pub add_at-requires-clause-spent : goal.add_at-requires-clause-spent
add_at-requires-clause-spent c =
    let l = switches-few c.args.order.now in
    let t : c.args.total ≤ length c.args.order.now = subst (λ n. n ≤ length c.args.order.now) (sym c.requires.total) l in
    omega (arith, t, c.of-before.ensures.spent)

pub add_at-requires-2-clause-spent : goal.add_at-requires-2-clause-spent
add_at-requires-2-clause-spent c =
    let l = switches-few c.args.order.now in
    let t : c.args.total ≤ length c.args.order.now = subst (λ n. n ≤ length c.args.order.now) (sym c.requires.total) l in
    omega (arith, t, c.of-before.ensures.spent)

pub returns : goal.returns
returns c =
    let there : List (List Step) = map (λ v. v.items) c.args.self.now.there.items in
    let now : List (List Step) = map (λ v. v.items) c.add_at.new.self.there.items in
    let first : AreLeft c.args.level c.args.at c.args.order.now c.args.tail.now.steps.items there c.args.self.now.beyond now c.add_at.new.self.beyond =
    subst (λ x. AreLeft c.args.level c.args.at c.args.order.now x there c.args.self.now.beyond now c.add_at.new.self.beyond) c.steps.ensures c.in_ok-add_at.ensures in
    on_ok c.add_at-2.result
    (λ a. both_added c.args.level c.args.at c.args.order.now c.args.tail.now.steps.items c.args.kills.now there now (map (λ v. v.items) c.add_at-2.new.self.there.items)
    c.args.self.now.beyond c.add_at.new.self.beyond c.add_at-2.new.self.beyond first a) c.add_at-2.ensures
