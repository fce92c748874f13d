use Rattle.std.proofs.Common.{◌≡◌, ◌∙◌, None, length, arith}
use Rattle.hib_trace_calls.specs.declared.calls.Fate.{Fate}
use Rattle.hib_trace_before.proofs.Steps.{begins_step}
use Rattle.hib_trace_before.proofs.begins.begins_of.Goals as goal

pub loop-write-preserved : goal.loop-write-preserved
loop-write-preserved c =
    let b = c.loop-write.begins in
    let d = c.note_begin.new.begins in
    let n : length d.items ≡ length b.items = omega (arith, d.ok.0, b.ok.0, c.note_begin.ensures.count) in
    record {
      count = c.note_begin.ensures.count ∙ c.loop-write.invariant.count;
      begins = begins_step c.args.writes.now c.loop-write.write-index
          (record { transaction = None; key = 0; table = 0; row = 0; version = None; begin = 0; end = 0; fate = Fate.Open }) b.items d.items c.loop-write-test.true n
          c.loop-write.invariant.begins (λ k t l. c.note_begin.ensures.each k t (omega (arith, l, b.ok.0)));
    }
