use Rattle.hib_statements.proofs.RowLines.{row_long}
use Rattle.hib_statements.proofs.rows.row.Goals as goal

pub returns-in-len3-up-clause-said : goal.returns-in-len3-up-clause-said
returns-in-len3-up-clause-said c = rw (row_long c.args.mapping.now c.args.rows.now c.args.line.now c.name-item.result c.id-item.result c.in-len3-up.len_at_least c.name-item.is c.id-item.is) (rw c.as_slice.ensures at c.row_parts.ensures.said)

pub returns-in-len3-up-clause-fault : goal.returns-in-len3-up-clause-fault
returns-in-len3-up-clause-fault c = rw (row_long c.args.mapping.now c.args.rows.now c.args.line.now c.name-item.result c.id-item.result c.in-len3-up.len_at_least c.name-item.is c.id-item.is) (rw c.as_slice.ensures at c.row_parts.ensures.fault)
