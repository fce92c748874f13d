use Rattle.std.proofs.Common.{sym}
use Rattle.hib_base.proofs.Sets.{cells_more}
use Rattle.hib_base.proofs.rows.put_cells.Goals as goal

pub loop-place-preserved : goal.loop-place-preserved
loop-place-preserved c = rw (c.put_cell.ensures, c.loop-place.invariant) (sym (cells_more c.loop-place.yielded (c.in-Some.place, c.in-Some.cell) c.args.cells.now))
