use Rattle.std.specs.Prelude.{slice_index_or}
use Rattle.std.proofs.Common.{◌≡◌, ◌+◌, ◌++◌, ◌<◌, ◌≤◌, ℕ, true, List, [], ◌∷◌, get_or, length, map, sym, ap, ◌∙◌, subst, arith}
use Rattle.std.proofs.lemmas.List.{get_or-map, get_or_default}
use Rattle.hib_order_law.specs.declared.step.Step.{Step}
use Rattle.hib_order_law.specs.declared.step.Turn.{Turn}
use Rattle.hib_order_tries.specs.Left.{AreOpen}
use Rattle.hib_order_tries.proofs.Opened.{AreOpened, length-push, next_open, openings_more}
use Rattle.hib_order_tries.proofs.openings.openings.Goals as goal

pub loop-place-preserved : goal.loop-place-preserved
loop-place-preserved c =
    let order : List Step = c.args.order.now in
    let turns : List Turn = c.args.turns.now in
    let place : ℕ = c.loop-place.place in
    let step : Step = get_or order place (Step.Own 0) in
    let turn : Turn = get_or turns place Turn.Opens in
    let olds : List Step = c.as_slice.result.now in
    let many : length c.loop-place.places.items ≡ place + 1 = c.loop-place.invariant.0 in
    let inside : place < length c.loop-place.places.items = omega (arith, many) in
    let beside : place < length turns = omega (arith, c.requires, c.loop-place-test.true) in
    let is : slice_index_or (map (λ v. v.items) c.loop-place.places.items) place [] ≡ olds =
    get_or-map (λ v. v.items) c.loop-place.places.items place c.index.result.now [] inside ∙ ap (λ v. v.items) (sym c.index.ensures) ∙ sym c.as_slice.ensures.value in
    let now : AreOpen true order turns place olds = subst (λ x. AreOpen true order turns place x) is (c.loop-place.invariant.1 place (omega arith)) in
    let o : AreOpened olds c.in_ok-next.next.items step turn = record { each = c.in_ok-next.ensures.each; all = c.in_ok-next.ensures.all } in
    let later : AreOpen true order turns (place + 1) c.in_ok-next.next.items =
    next_open order turns place olds c.in_ok-next.next.items step turn c.requires c.loop-place-test.true (get_or_default order place (Step.Own 0) step c.loop-place-test.true)
    (get_or_default turns place Turn.Opens turn beside) now o in (
      ap (λ x. length x) c.in_ok-push-2.ensures.items ∙ length-push c.loop-place.places.items c.in_ok-next.next ∙ ap (λ n. n + 1) many,
      subst (λ x. (at : ℕ) → at ≤ place + 1 → AreOpen true order turns at (slice_index_or (map (λ v. v.items) x) at [])) (sym c.in_ok-push-2.ensures.items)
          (openings_more (λ v. v.items) order turns place c.loop-place.places.items c.in_ok-next.next many c.loop-place.invariant.1 later),
    )
