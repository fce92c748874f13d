use Rattle.hib_statements.proofs.Cells.{persist_long}
use Rattle.hib_statements.proofs.statements.persist.Goals as goal

pub returns-in-len3-up-clause-said : goal.returns-in-len3-up-clause-said
returns-in-len3-up-clause-said c = rw (persist_long c.args.mapping.now c.args.line.now c.name-item.result c.id-item.result c.in-len3-up.len_at_least c.name-item.is c.id-item.is) c.persist_parts.ensures.said

pub returns-in-len3-up-clause-fault : goal.returns-in-len3-up-clause-fault
returns-in-len3-up-clause-fault c = rw (persist_long c.args.mapping.now c.args.line.now c.name-item.result c.id-item.result c.in-len3-up.len_at_least c.name-item.is c.id-item.is) c.persist_parts.ensures.fault
