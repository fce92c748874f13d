use Rattle.hib_base.proofs.Defaults.{defaults_next}
use Rattle.hib_base.proofs.widening.add_defaults.Goals as goal

pub loop-column-preserved : goal.loop-column-preserved
loop-column-preserved c =
    defaults_next c.args.cells.now.items c.loop-column.cells.items _ c.args.columns.now c.loop-column.column-index c.column-item.result c.loop-column-test.true c.column-item.is c.loop-column.invariant c.in_ok-add_default.ensures
