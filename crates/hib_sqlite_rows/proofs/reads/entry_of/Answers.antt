use Rattle.hib_sqlite_rows.proofs.Decoded.{entry_is}
use Rattle.hib_sqlite_rows.proofs.reads.entry_of.Goals as goal

pub returns : goal.returns
returns c = λ it. entry_is c.args.row.now c.args.entity c.in_ok-id.id c.in_ok-get.field-0 c.in_ok-cells_at.field-0 it c.in_ok-id.ensures.ok.1 c.in_ok-get.ensures.ok.1 c.in_ok-cells_at.ensures
