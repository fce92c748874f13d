use Rattle.std.proofs.Common.{◌≡◌, ℕ, true, false, List, map, refl, sym, ap, ◌∙◌, subst}
use Rattle.std.proofs.lemmas.Bool.{false≢true}
use Rattle.hib_order_law.specs.Orders.{switches}
use Rattle.hib_order_law.specs.Search.{IsTest}
use Rattle.hib_order_law.specs.declared.step.Step.{Step}
use Rattle.hib_order_law.specs.declared.step.Turn.{Turn}
use Rattle.hib_order_tries.specs.Amid.{IsAmid}
use Rattle.hib_order_tries.specs.Left.{IsTurned}
use Rattle.hib_order_tries.proofs.Turning.{turned}
use Rattle.hib_order_tries.proofs.trying.Searching.take.Goals as goal

test_true : {P : Type 0} → P → IsTest P true
test_true p = (λ _. p, λ q. absurd (false≢true (sym q)))

test_false : {P : Type 0} → (P → ⊥) → IsTest P false
test_false f = (λ q. absurd (false≢true q), λ _ p. f p)

pub returns-in_ok-note-clause-taken : goal.returns-in_ok-note-clause-taken
returns-in_ok-note-clause-taken c = λ _ script start judged ended begun a p n.
    let level : ℕ = c.args.self.now.waiting.level in
    let waiting : List (List Step) = map (λ v. v.items) c.args.self.now.waiting.now.items in
    let new : List (List Step) = map (λ v. v.items) c.add.new.self.now.items in
    let order : List Step = c.args.run.order.items in
    let turns : List Turn = c.args.run.turns.items in
    let same : c.add.new.self.level ≡ level = c.in_ok-add.ensures.level in
    let total : c.in_ok-total.total ≡ switches order = c.in_ok-total.ensures ∙ ap (λ x. switches x) c.as_slice.ensures.value in
    let added : IsTurned c.args.most_kills level c.args.from order turns waiting c.args.self.now.waiting.beyond new c.add.new.self.beyond =
    subst (λ x. IsTurned c.args.most_kills level c.args.from order x waiting c.args.self.now.waiting.beyond new c.add.new.self.beyond) c.as_slice-turns.ensures.value
    (subst (λ x. IsTurned c.args.most_kills level c.args.from x c.as_slice-turns.result.now waiting c.args.self.now.waiting.beyond new c.add.new.self.beyond) c.as_slice-2.ensures.value
    c.in_ok-add.ensures.added) in
    subst (λ k. IsAmid script start judged ended c.args.most_kills k new c.add.new.self.beyond c.note.new.self) (sym same)
    (turned script start judged ended c.args.most_kills level waiting new c.args.self.now.waiting.beyond c.add.new.self.beyond true begun order turns c.args.run.verdicts c.args.run.ending.items
    c.args.self.now.findings c.note.new.self c.args.from c.in_ok-total.total a p n added total (test_true (c.if-total-self-2.true ∙ same))
    (λ _ runs es f v o e. c.in_ok-note.ensures.noted judged ended runs es f v o e) (λ q. absurd (false≢true (sym q))))

pub returns-else-total-self-2-clause-taken : goal.returns-else-total-self-2-clause-taken
returns-else-total-self-2-clause-taken c = λ _ script start judged ended begun a p n.
    let level : ℕ = c.args.self.now.waiting.level in
    let waiting : List (List Step) = map (λ v. v.items) c.args.self.now.waiting.now.items in
    let new : List (List Step) = map (λ v. v.items) c.add.new.self.now.items in
    let order : List Step = c.args.run.order.items in
    let turns : List Turn = c.args.run.turns.items in
    let same : c.add.new.self.level ≡ level = c.in_ok-add.ensures.level in
    let total : c.in_ok-total.total ≡ switches order = c.in_ok-total.ensures ∙ ap (λ x. switches x) c.as_slice.ensures.value in
    let added : IsTurned c.args.most_kills level c.args.from order turns waiting c.args.self.now.waiting.beyond new c.add.new.self.beyond =
    subst (λ x. IsTurned c.args.most_kills level c.args.from order x waiting c.args.self.now.waiting.beyond new c.add.new.self.beyond) c.as_slice-turns.ensures.value
    (subst (λ x. IsTurned c.args.most_kills level c.args.from x c.as_slice-turns.result.now waiting c.args.self.now.waiting.beyond new c.add.new.self.beyond) c.as_slice-2.ensures.value
    c.in_ok-add.ensures.added) in
    subst (λ k. IsAmid script start judged ended c.args.most_kills k new c.add.new.self.beyond c.args.self.now.findings) (sym same)
    (turned script start judged ended c.args.most_kills level waiting new c.args.self.now.waiting.beyond c.add.new.self.beyond false begun order turns c.args.run.verdicts c.args.run.ending.items
    c.args.self.now.findings c.args.self.now.findings c.args.from c.in_ok-total.total a p n added total (test_false (λ q. c.if-total-self-2.false (q ∙ sym same)))
    (λ q. absurd (false≢true q)) (λ _. refl))
