use Rattle.std.proofs.Common.{◌≡◌, ◌∙◌, length, arith}
use Rattle.hib_trace_calls.proofs.Tables.{table_step}
use Rattle.hib_trace_calls.proofs.fates.fates_in.Goals as goal

pub loop-call-preserved : goal.loop-call-preserved
loop-call-preserved c =
    let t = c.loop-call.table in
    let u = c.note_end.new.table in
    let n : length u.items ≡ length t.items = omega (arith, u.ok.0, t.ok.0, c.note_end.ensures.count) in
    record {
      count = c.note_end.ensures.count ∙ c.loop-call.invariant.count;
      table = table_step c.args.calls.now c.loop-call.call-index c.call-item.result t.items u.items c.loop-call-test.true c.call-item.is n
          c.loop-call.invariant.table (λ k l. c.note_end.ensures.each k (omega (arith, l, t.ok.0)));
    }
