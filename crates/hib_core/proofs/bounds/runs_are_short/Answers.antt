use Rattle.hib_core.proofs.Short.{run_few, run_within}
use Rattle.hib_core.proofs.bounds.runs_are_short.Goals as goal

pub returns-clause-short : goal.returns-clause-short
returns-clause-short c = λ script told h l. run_few c.steps_are_in_order.ensures.steps c.entries_are_few.ensures script told h l

pub returns-clause-few : goal.returns-clause-few
returns-clause-few c = λ script told h v l n. run_within c.steps_are_in_order.ensures.steps c.entries_are_few.ensures script told h v l n
