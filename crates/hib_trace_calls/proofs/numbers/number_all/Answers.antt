use Rattle.hib_trace_lines.specs.Rows.{row_text}
use Rattle.hib_trace_calls.specs.Numbers.{IsMade}
use Rattle.hib_trace_calls.proofs.Grown.{all_grow_on, all_made_kept, zip_map_step}
use Rattle.hib_trace_calls.proofs.numbers.number_all.Goals as goal

pub loop-write-preserved : goal.loop-write-preserved
loop-write-preserved c =
    let t = c.loop-write.texts in
    let u = c.number_made.new.texts in
    record {
      made = zip_map_step row_text (IsMade u) c.args.writes.now c.loop-write.made.items c.push.new.self.items c.loop-write.write-index
          c.write-item.result c.in_ok-number_made.field-0 c.loop-write-test.true c.write-item.is
          (all_made_kept t u _ c.loop-write.made.items c.in_ok-number_made.ensures.grows c.loop-write.invariant.made)
          c.in_ok-number_made.ensures.made c.in_ok-push.ensures.items;
      grows = all_grow_on _ t u c.loop-write.invariant.grows c.in_ok-number_made.ensures.grows;
    }
