use Rattle.std.proofs.Common.{string_bytes, subst}
use Rattle.hib_trace_numbers.specs.Texts.{IsNamed, texts}
use Rattle.hib_trace_calls.proofs.Grown.{each_kept, grows_on, zip_map_step}
use Rattle.hib_trace_calls.proofs.numbers.number_each.Goals as goal

pub loop-text-preserved : goal.loop-text-preserved
loop-text-preserved c =
    let a = texts c.loop-text.names in
    let b = texts c.number_text.new.names in
    record {
      named = zip_map_step string_bytes (λ x n. IsNamed b n x) c.args.all.now c.loop-text.numbers.items c.push.new.self.items c.loop-text.text-index
          c.text-item.result c.in_ok-number_text.field-0 c.loop-text-test.true c.text-item.is
          (each_kept a b _ c.loop-text.numbers.items c.number_text.ensures.grows c.loop-text.invariant.named)
          (subst (λ x. IsNamed b c.in_ok-number_text.field-0 x) c.as_str.ensures.value c.in_ok-number_text.ensures.named) c.in_ok-push.ensures.items;
      grows = grows_on _ a b c.loop-text.invariant.grows c.number_text.ensures.grows;
    }
