use Rattle.hib_sqlite_rows.proofs.Decoded.{row_is}
use Rattle.hib_sqlite_rows.proofs.reads.row_of.Goals as goal

pub returns : goal.returns
returns c = λ it. row_is c.args.row.now c.in_ok-get.field-0 c.in_ok-cells_at.field-0 it c.in_ok-get.ensures.ok.1 c.in_ok-cells_at.ensures
