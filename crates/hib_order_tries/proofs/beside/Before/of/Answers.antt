use Rattle.std.proofs.Common.{◌≡◌, ◌+◌, ◌-◌, ◌<◌, ◌≤◌, ℕ, true, false, cond, get_or, sym, ◌∙◌, subst, arith, drop, length}
use Rattle.std.proofs.lemmas.List.{get_or_default}
use Rattle.hib_order_law.specs.Orders.{leaves}
use Rattle.hib_order_law.specs.declared.step.Step.{Step}
use Rattle.hib_order_tries.proofs.Tails.{tail-few}
use Rattle.hib_order_tries.proofs.Befores.{Rest, before_left, before_free, rest_fits}
use Rattle.hib_order_tries.proofs.beside.Before.of.Goals as goal
use Rattle.hib_order_tries.proofs.beside.Before.of.Goals.{then-leaves, else-leaves}

pub overflow_add-rest : goal.overflow_add-rest
overflow_add-rest c =
    let l = tail-few c.args.order.now c.args.tail.now.steps.items c.args.tail.now.first c.args.tail.now.switches c.args.at c.requires.tail in
    omega (arith, l)

pub overflow_sub-result : goal.overflow_sub-result
overflow_sub-result c =
    let s : ℕ = c.session-session.result in
    let u : Step = get_or c.args.order.now (c.args.at - 1) (Step.Own 0) in
    let left : c.leaves.result ≡ leaves s (drop c.args.at c.args.order.now) = c.leaves.ensures (drop c.args.at c.args.order.now) c.requires.tail in
    let rest : c.if-leaves.rest ≡ cond (leaves s (drop c.args.at c.args.order.now)) 1 0 + c.args.tail.now.switches = elim c.if-leaves.branch [
      | then-leaves w ↦ let p : leaves s (drop c.args.at c.args.order.now) ≡ true = sym left ∙ w.if-leaves.true in rw p (omega (arith, w.rest-is))
      | else-leaves w ↦ let p : leaves s (drop c.args.at c.args.order.now) ≡ false = sym left ∙ w.if-leaves.false in rw p (omega (arith, w.rest-is))
    ] in
    let inside : c.args.at - 1 < length c.args.order.now = omega (arith, c.if-at-eq0.false, c.requires.inside) in
    let r : Rest (c.args.at - 1) c.args.at c.args.order.now c.args.tail.now.steps.items c.args.tail.now.first c.args.tail.now.switches c.if-leaves.rest s u =
    record {
      place = omega (arith, c.if-at-eq0.false);
      tail = c.requires.tail;
      inside = c.requires.inside;
      more = rest;
      session = c.session-session.ensures;
      step = get_or_default c.args.order.now (c.args.at - 1) (Step.Own 0) u inside;
    } in
    let f = rest_fits (c.args.at - 1) c.args.at c.args.order.now c.args.tail.now.steps.items c.args.tail.now.first c.args.tail.now.switches c.if-leaves.rest s u r in
    subst (λ n. c.if-leaves.rest ≤ n) (sym c.requires.total) f

pub returns-then-comes-clause-before : goal.returns-then-comes-clause-before
returns-then-comes-clause-before c =
    let s : ℕ = c.session-session.result in
    let u : Step = get_or c.args.order.now (c.args.at - 1) (Step.Own 0) in
    let left : c.leaves.result ≡ leaves s (drop c.args.at c.args.order.now) = c.leaves.ensures (drop c.args.at c.args.order.now) c.requires.tail in
    let rest : c.if-leaves.rest ≡ cond (leaves s (drop c.args.at c.args.order.now)) 1 0 + c.args.tail.now.switches = elim c.if-leaves.branch [
      | then-leaves w ↦ let p : leaves s (drop c.args.at c.args.order.now) ≡ true = sym left ∙ w.if-leaves.true in rw p (omega (arith, w.rest-is))
      | else-leaves w ↦ let p : leaves s (drop c.args.at c.args.order.now) ≡ false = sym left ∙ w.if-leaves.false in rw p (omega (arith, w.rest-is))
    ] in
    let inside : c.args.at - 1 < length c.args.order.now = omega (arith, c.if-at-eq0.false, c.requires.inside) in
    let r : Rest (c.args.at - 1) c.args.at c.args.order.now c.args.tail.now.steps.items c.args.tail.now.first c.args.tail.now.switches c.if-leaves.rest s u =
    record {
      place = omega (arith, c.if-at-eq0.false);
      tail = c.requires.tail;
      inside = c.requires.inside;
      more = rest;
      session = c.session-session.ensures;
      step = get_or_default c.args.order.now (c.args.at - 1) (Step.Own 0) u inside;
    } in
    before_left (c.args.at - 1) c.args.at c.args.order.now c.args.tail.now.steps.items c.args.tail.now.first c.args.tail.now.switches c.if-leaves.rest s u r c.args.total
    c.requires.total (sym c.comes.ensures ∙ c.if-comes.true)

pub returns-else-comes-clause-before : goal.returns-else-comes-clause-before
returns-else-comes-clause-before c =
    let s : ℕ = c.session-session.result in
    let u : Step = get_or c.args.order.now (c.args.at - 1) (Step.Own 0) in
    let left : c.leaves.result ≡ leaves s (drop c.args.at c.args.order.now) = c.leaves.ensures (drop c.args.at c.args.order.now) c.requires.tail in
    let rest : c.if-leaves.rest ≡ cond (leaves s (drop c.args.at c.args.order.now)) 1 0 + c.args.tail.now.switches = elim c.if-leaves.branch [
      | then-leaves w ↦ let p : leaves s (drop c.args.at c.args.order.now) ≡ true = sym left ∙ w.if-leaves.true in rw p (omega (arith, w.rest-is))
      | else-leaves w ↦ let p : leaves s (drop c.args.at c.args.order.now) ≡ false = sym left ∙ w.if-leaves.false in rw p (omega (arith, w.rest-is))
    ] in
    let inside : c.args.at - 1 < length c.args.order.now = omega (arith, c.if-at-eq0.false, c.requires.inside) in
    let r : Rest (c.args.at - 1) c.args.at c.args.order.now c.args.tail.now.steps.items c.args.tail.now.first c.args.tail.now.switches c.if-leaves.rest s u =
    record {
      place = omega (arith, c.if-at-eq0.false);
      tail = c.requires.tail;
      inside = c.requires.inside;
      more = rest;
      session = c.session-session.ensures;
      step = get_or_default c.args.order.now (c.args.at - 1) (Step.Own 0) u inside;
    } in
    before_free (c.args.at - 1) c.args.at c.args.order.now c.args.tail.now.steps.items c.args.tail.now.first c.args.tail.now.switches c.if-leaves.rest s u r c.args.total
    c.requires.total (sym c.comes.ensures ∙ c.if-comes.false)
