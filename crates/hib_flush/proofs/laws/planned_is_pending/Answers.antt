use Rattle.hib_flush.proofs.Pending.{pending_kept}
use Rattle.hib_flush.proofs.laws.planned_is_pending.Goals as goal

pub returns : goal.returns
returns c map mine holds removals = pending_kept map mine holds removals
