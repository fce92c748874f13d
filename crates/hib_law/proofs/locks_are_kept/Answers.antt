use Rattle.hib_law.proofs.Ids.{locks_kept}
use Rattle.hib_law.proofs.locks_are_kept.Goals as goal

pub returns : goal.returns
returns c = record { locks = locks_kept }
