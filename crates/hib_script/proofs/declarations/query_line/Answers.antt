use Rattle.hib_script.proofs.declarations.query_line.Goals as goal

pub returns-in-Ok-clause-fault : goal.returns-in-Ok-clause-fault
returns-in-Ok-clause-fault c = rw (← c.is_query_taken-is_taken.ensures, c.in-Ok.ensures.query) c.with_query.ensures.fault
