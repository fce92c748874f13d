use Rattle.std.proofs.Common.{◌<◌, length, arith}
use Rattle.hib_print.specs.Lines.{set_tokens}
use Rattle.hib_print.proofs.Added.{adds_more, adds_each}
use Rattle.hib_print.proofs.sessions.print_sets.Goals as goal

pub loop-set-preserved : goal.loop-set-preserved
loop-set-preserved c =
    let low : c.loop-set.set-index < length c.args.sets.now = omega arith in
    let name = rw c.column_name.ensures at c.in_ok-word.ensures in
    adds_each (λ x. set_tokens c.args.script.now c.args.entity x) c.args.sets.now c.loop-set.set-index c.set-item.result low c.set-item.is c.loop-set.invariant
    (adds_more name c.in_ok-cell.ensures)
