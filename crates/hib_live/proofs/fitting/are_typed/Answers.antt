use Rattle.std.proofs.Common.{sym}
use Rattle.hib_live.proofs.Typed.{other_count}
use Rattle.hib_live.proofs.fitting.are_typed.Goals as goal

pub returns-then-columns-cells : goal.returns-then-columns-cells
returns-then-columns-cells c = sym (other_count c.args.columns.now c.args.cells.now c.if-columns-cells.true)
