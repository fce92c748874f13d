use Rattle.std.proofs.Common.{◌<◌, length, arith}
use Rattle.hib_print.specs.Lines.{sort_tokens}
use Rattle.hib_print.proofs.Added.{adds_each_at}
use Rattle.hib_print.proofs.queries.print_sorts.Goals as goal

pub loop-sort-preserved : goal.loop-sort-preserved
loop-sort-preserved c =
    let low : c.loop-sort.sort-index < length c.args.sorts.now = omega arith in
    adds_each_at (λ x. sort_tokens c.args.script.now c.args.entity x) c.args.sorts.now c.loop-sort.sort-index _ low c.loop-sort.invariant c.in_ok-print_sort.ensures
