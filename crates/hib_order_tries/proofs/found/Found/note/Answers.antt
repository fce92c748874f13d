use Rattle.std.proofs.Common.{◌≡◌, ◌+◌, ◌≤◌, true, sym, ◌∙◌, ap, refl, arith}
use Rattle.hib_order_law.specs.Orders.{switches}
use Rattle.hib_order_tries.proofs.Counted.{found_not, found_later, found_now, not_none, no_later, is_earlier}
use Rattle.hib_order_tries.proofs.found.Found.note.Goals as goal
use Rattle.hib_order_tries.proofs.found.Found.note.Goals.{then-is_before+in_ok-steps+in-Some-1, then-is_before+in_ok-steps+in-None-1, else-is_before}

pub returns-then-not-has : goal.returns-then-not-has
returns-then-not-has c = (omega arith, λ looked_for runs es f h o. found_not looked_for runs es c.args.self.now f (sym h ∙ c.if-not-has.true))

pub returns : goal.returns
returns c = (
  count,
  λ looked_for runs es f h o.
      let has : looked_for es ≡ true = sym h ∙ c.if-not-has.false in
      elim c.if-is_before.branch [
        | then-is_before+in_ok-steps+in-Some-1 w ↦
            found_now looked_for runs es c.args.self.now (record { count = c.if-is_before.self.count + 1; first = c.if-is_before.self.first }) c.args.order.now c.args.total
            (record { order = w.in_ok-steps.steps; switches = c.args.total }) f has (ap (λ x. x.count + 1) w.self-is) (ap (λ x. x.first) w.self-is)
            (w.in_ok-steps.ensures.items_if_clones_equal (λ x y p. p)) refl o c.requires.total (is_earlier c.args.self.now.first c.args.total c.is_before.result c.is_before.ensures.some w.if-is_before.true)
        | then-is_before+in_ok-steps+in-None-1 w ↦
            found_now looked_for runs es c.args.self.now (record { count = c.if-is_before.self.count + 1; first = c.if-is_before.self.first }) c.args.order.now c.args.total
            (record { order = w.in_ok-steps.steps; switches = c.args.total }) f has (ap (λ x. x.count + 1) w.self-is) (ap (λ x. x.first) w.self-is)
            (w.in_ok-steps.ensures.items_if_clones_equal (λ x y p. p)) refl o c.requires.total (is_earlier c.args.self.now.first c.args.total c.is_before.result c.is_before.ensures.some w.if-is_before.true)
        | else-is_before w ↦
            found_later looked_for runs es c.args.self.now (record { count = c.if-is_before.self.count + 1; first = c.if-is_before.self.first }) c.args.total
            f has (ap (λ x. x.count + 1) w.self-is) (ap (λ x. x.first) w.self-is) (c.requires.total ∙ ap (λ x. switches x) o)
            (not_none c.args.self.now.first c.is_before.result c.is_before.ensures.none w.if-is_before.false)
            (no_later c.args.self.now.first c.args.total c.is_before.result c.is_before.ensures.some w.if-is_before.false)
      ],
)
  where
    kept : c.if-is_before.self.count ≡ c.args.self.now.count
    kept = elim c.if-is_before.branch [
      | then-is_before+in_ok-steps+in-Some-1 w ↦ ap (λ x. x.count) w.self-is
      | then-is_before+in_ok-steps+in-None-1 w ↦ ap (λ x. x.count) w.self-is
      | else-is_before w ↦ ap (λ x. x.count) w.self-is
    ]

    count : c.if-is_before.self.count + 1 ≤ c.args.self.now.count + 1
    count = omega (arith, kept)
