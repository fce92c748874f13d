use Rattle.std.proofs.Common.{◌≡◌, ◌+◌, ◌++◌, ℕ, true, false, cond, List, [], ◌∷◌, inl, inr, sym, ◌∙◌, ap, arith}
use Rattle.hib_order_law.specs.Orders.{comes, leaves}
use Rattle.hib_order_law.specs.declared.step.Step.{Step}
use Rattle.hib_order_tries.proofs.Tails.{IsNoted, taken_by}
use Rattle.hib_order_tries.proofs.tail.Tail.take.Goals as goal
use Rattle.hib_order_tries.proofs.tail.Tail.take.Goals.{then-leaves, else-leaves, then-not-comes+in_ok-push, else-not-comes}

pub returns : goal.returns
returns c = λ steps t.
    let s : ℕ = c.session-session.result in
    let old : List Step = c.args.self.now.steps.items in
    let kept : c.if-leaves.self.steps.items ≡ old = elim c.if-leaves.branch [
      | then-leaves w ↦ ap (λ x. x.steps.items) w.self-is
      | else-leaves w ↦ ap (λ x. x.steps.items) w.self-is
    ] in
    let came : c.comes.result ≡ comes s old = c.comes.ensures ∙ ap (λ l. comes s l) kept in
    let noted : IsNoted s old c.if-not-comes.self.steps.items = elim c.if-not-comes.branch [
      | then-not-comes+in_ok-push w ↦ inr (sym came ∙ w.if-not-comes.true, ap (λ x. x.steps.items) w.self-is ∙ w.in_ok-push.ensures.items ∙ ap (λ l. l ++ Step.Own s ∷ []) kept)
      | else-not-comes w ↦ inl (sym came ∙ w.if-not-comes.false, ap (λ x. x.steps.items) w.self-is ∙ kept)
    ] in
    let left : c.leaves.result ≡ leaves s steps = c.leaves.ensures steps t in
    let same : c.if-not-comes.self.switches ≡ c.if-leaves.self.switches = elim c.if-not-comes.branch [
      | then-not-comes+in_ok-push w ↦ ap (λ x. x.switches) w.self-is
      | else-not-comes w ↦ ap (λ x. x.switches) w.self-is
    ] in
    let count : c.if-leaves.self.switches ≡ cond (leaves s steps) 1 0 + c.args.self.now.switches = elim c.if-leaves.branch [
      | then-leaves w ↦ let p : leaves s steps ≡ true = sym left ∙ w.if-leaves.true in let q : c.if-leaves.self.switches ≡ c.args.self.now.switches + 1 = ap (λ x. x.switches) w.self-is in rw p (omega arith)
      | else-leaves w ↦ let p : leaves s steps ≡ false = sym left ∙ w.if-leaves.false in let q : c.if-leaves.self.switches ≡ c.args.self.now.switches = ap (λ x. x.switches) w.self-is in rw p (omega arith)
    ] in
    taken_by steps old c.if-not-comes.self.steps.items c.args.self.now.first c.args.self.now.switches c.if-not-comes.self.switches s c.args.step c.session-session.ensures t noted (same ∙ count)
