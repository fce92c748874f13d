use Rattle.std.proofs.Common.{◌≡◌, ◌<◌, ◌++◌, length, ap, ◌∙◌, arith}
use Rattle.hib_collections.specs.Counted.{counts_on, total_text}
use Rattle.hib_collections.specs.Text.{count_text}
use Rattle.hib_collections.specs.declared.counting.Counts.{Counts}
use Rattle.hib_collections.proofs.Texts.{counts_at}
use Rattle.hib_collections.proofs.lines.put_counts.Goals as goal

pub loop-at-preserved : goal.loop-at-preserved
loop-at-preserved c =
    let e = c.as_slice-def-items.ensures in
    let t = c.loop-at-test.true in
    let n = ap length e in
    let low : c.loop-at.at < length c.args.defs.now = omega (arith, t, n) in
    let below : c.loop-at.at < c.len.result = omega (arith, t, n, c.len.ensures) in
    let counted : c.index.result.now ≡ counts_on c.loop-at.at c.args.entries.now = c.index.ensures ∙ c.in_ok-counts.ensures.counts c.loop-at.at c.index.result.now below in
    let line = λ (k : Counts). c.loop-at.out.items ++ total_text c.def-item.result k in
    let next : c.put_count.new.out.items ≡ c.loop-at.out.items ++ count_text c.args.entries.now c.loop-at.at c.def-item.result = c.in_ok-put_count.ensures ∙ ap line counted in
    counts_at c.args.entries.now c.as_slice-def-items.result.now c.args.defs.now c.loop-at.at c.def-item.result e low c.def-item.is c.args.out.now.items c.loop-at.out.items c.put_count.new.out.items c.loop-at.invariant next
