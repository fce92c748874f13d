use Rattle.hib_listeners.proofs.Hearing.{goes_on}
use Rattle.hib_listeners.proofs.laws.telling_goes_on.Goals as goal

pub returns : goal.returns
returns c = goes_on
