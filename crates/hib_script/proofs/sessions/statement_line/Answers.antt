use Rattle.hib_script.proofs.Queries.{names_of_said}
use Rattle.hib_script.proofs.sessions.statement_line.Goals as goal

pub returns-in-Ok-clause-fault : goal.returns-in-Ok-clause-fault
returns-in-Ok-clause-fault c = rw (names_of_said c.args.draft.now.script.queries, c.in-Ok.ensures.said) c.with_statement.ensures.fault
