use Rattle.std.proofs.Common.{◌≡◌, ◌∙◌, length, arith}
use Rattle.hib_trace_before.proofs.Steps.{rows_step}
use Rattle.hib_trace_before.proofs.before.rows_of.Goals as goal

pub loop-call-preserved : goal.loop-call-preserved
loop-call-preserved c =
    let r = c.loop-call.rows in
    let q = c.note_row.new.rows in
    record {
      count = c.note_row.ensures.count ∙ c.loop-call.invariant.count;
      rows = rows_step c.args.calls.now c.loop-call.call-index c.call-item.result c.args.begins.now r.items q.items c.args.clock c.loop-call-test.true
          c.call-item.is c.loop-call.invariant.rows
          (λ k l. c.note_row.ensures.each k (omega (arith, l, c.loop-call.invariant.count)) l);
    }
