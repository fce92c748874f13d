use Rattle.std.proofs.Common.{◌≡◌, ◌+◌, List, Vec, Global, get_or, sym, ◌∙◌, ap, subst}
use Rattle.hib_traces.specs.declared.marks.Mark.{Mark}
use Rattle.hib_traces.specs.Marks.{is_lowest}
use Rattle.hib_traces.proofs.Steps.{IsStepped, stepped, skipped}
use Rattle.hib_traces.proofs.marks.stairs.Goals.{then-steps_down+in_ok-push, else-steps_down}
use Rattle.hib_traces.proofs.marks.stairs.Goals as goal

pub loop-mark-preserved : goal.loop-mark-preserved
loop-mark-preserved c =
    let z : Mark = record { at = 0; value = 0 } in
    let next : Mark = get_or c.args.marks.now c.loop-mark.mark-index z in
    let p : c.steps_down.result ≡ is_lowest c.loop-mark.steps.items next =
    c.steps_down.ensures.lowest ∙ ap (λ (s : List Mark). is_lowest s next) c.deref.ensures.value in
    elim c.if-steps_down.branch [
      | then-steps_down+in_ok-push w ↦ subst (λ (s : List Mark). IsStepped c.args.marks.now (c.loop-mark.mark-index + 1) s)
          (sym (ap (λ (v : Vec Mark Global). v.items) w.steps-is ∙ w.in_ok-push.ensures.items))
          (stepped c.args.marks.now c.loop-mark.steps.items c.loop-mark.mark-index z c.loop-mark-test.true c.loop-mark.invariant c.steps_down.ensures.fits
          c.requires.sorted (sym p ∙ w.if-steps_down.true))
      | else-steps_down w ↦ subst (λ (s : List Mark). IsStepped c.args.marks.now (c.loop-mark.mark-index + 1) s)
          (sym (ap (λ (v : Vec Mark Global). v.items) w.steps-is))
          (skipped c.args.marks.now c.loop-mark.steps.items c.loop-mark.mark-index z c.loop-mark-test.true c.loop-mark.invariant c.steps_down.ensures.fits
          (sym p ∙ w.if-steps_down.false))
    ]
