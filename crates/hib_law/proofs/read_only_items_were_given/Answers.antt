use Rattle.hib_law.proofs.ReadOnly.{items_given}
use Rattle.hib_law.proofs.read_only_items_were_given.Goals as goal

pub returns : goal.returns
returns c = record { given = items_given }
