use Rattle.hib_formed.proofs.Formed.{numbered_early}
use Rattle.hib_formed.proofs.ticks_are_early.Goals as goal

pub returns : goal.returns
returns c = record { early = numbered_early }
