use Rattle.hib_journal.proofs.Steps.{steps_in_order as in_order}
use Rattle.hib_law.proofs.steps_are_in_order.Goals as goal

pub returns : goal.returns
returns c = record { steps = in_order }
