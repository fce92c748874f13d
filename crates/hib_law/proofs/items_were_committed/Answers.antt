use Rattle.hib_law.proofs.Stored.{items_old}
use Rattle.hib_law.proofs.items_were_committed.Goals as goal

pub returns : goal.returns
returns c = record { items = items_old }
