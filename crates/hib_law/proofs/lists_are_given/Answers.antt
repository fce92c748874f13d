use Rattle.hib_law.proofs.Lists.{lists_given}
use Rattle.hib_law.proofs.lists_are_given.Goals as goal

pub returns : goal.returns
returns c = record { lists = lists_given }
