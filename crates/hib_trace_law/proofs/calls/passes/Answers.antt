use Rattle.std.proofs.Common.{sym, ◌∙◌, arith}
use Rattle.hib_trace_law.specs.declared.calls.Call.{Call}
use Rattle.hib_trace_law.proofs.Passed.{too_early, made_more, later_more}
use Rattle.hib_trace_law.proofs.calls.passes.Goals.{then-at-seen+else-call-seen, else-at-seen+else-call-seen-2}
use Rattle.hib_trace_law.proofs.calls.passes.Goals as goal

pub returns-then-call-seen : goal.returns-then-call-seen
returns-then-call-seen c =
    let d : Call = record { begin = 0; end = 0 } in
    sym (sym c.loop-at.invariant ∙ too_early c.args.calls.now c.args.seen.now c.loop-at.at d c.loop-at-test.true c.if-at-seen.true c.if-call-seen.true)

pub loop-at-preserved : goal.loop-at-preserved
loop-at-preserved c =
    let d : Call = record { begin = 0; end = 0 } in
    elim c.if-at-seen.branch [
      | then-at-seen+else-call-seen w ↦ sym (made_more c.args.calls.now c.args.seen.now c.loop-at.at d c.loop-at-test.true w.if-at-seen.true (omega (arith, w.if-call-seen.false))) ∙ c.loop-at.invariant
      | else-at-seen+else-call-seen-2 w ↦ sym (later_more c.args.calls.now c.args.seen.now c.loop-at.at d c.loop-at-test.true (omega (arith, w.if-at-seen.false)) (omega (arith, w.if-call-seen-2.false))) ∙ c.loop-at.invariant
    ]
