use Rattle.std.proofs.Common.{◌≡◌, sym, ◌∙◌, arith}
use Rattle.hib_order_law.specs.declared.step.Step.{Step}
use Rattle.hib_order_tries.proofs.Opened.{kills-more}
use Rattle.hib_order_tries.proofs.openings.count_kills.Goals as goal
use Rattle.hib_order_tries.proofs.openings.count_kills.Goals.{then-is_kill, else-is_kill}

pub loop-place-preserved : goal.loop-place-preserved
loop-place-preserved c =
    let m = kills-more c.args.order.now c.loop-place.place c.loop-place.count (Step.Own 0) c.loop-place-test.true c.loop-place.invariant.0 in (
      elim c.if-is_kill.branch [
        | then-is_kill w ↦ w.count-is ∙ m.0 (sym c.is_kill.ensures ∙ w.if-is_kill.true)
        | else-is_kill w ↦ w.count-is ∙ m.1 (sym c.is_kill.ensures ∙ w.if-is_kill.false)
      ],
      elim c.if-is_kill.branch [
        | then-is_kill w ↦ omega (arith, w.count-is, c.loop-place.invariant.1)
        | else-is_kill w ↦ omega (arith, w.count-is, c.loop-place.invariant.1)
      ],
    )
