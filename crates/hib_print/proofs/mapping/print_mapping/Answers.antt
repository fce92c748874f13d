use Rattle.std.proofs.Common.{◌<◌, length, arith}
use Rattle.hib_print.specs.Lines.{entity_lines}
use Rattle.hib_print.proofs.Added.{lines_more, lines_each}
use Rattle.hib_print.proofs.mapping.print_mapping.Goals as goal

pub loop-entity-preserved : goal.loop-entity-preserved
loop-entity-preserved c =
    let low : c.loop-entity.entity-index < length c.as_slice-entity-items.result.now = omega arith in
    let columns = rw c.as_slice.ensures at c.in_ok-print_columns.ensures in
    lines_each (λ e. entity_lines c.args.script.now e) c.as_slice-entity-items.result.now c.loop-entity.entity-index c.entity-item.result low c.entity-item.is c.loop-entity.invariant
    (lines_more c.in_ok-print_entity.ensures columns)
