use Rattle.hib_listeners.proofs.Hearing.{nothing_told}
use Rattle.hib_listeners.proofs.laws.nothing_was_told.Goals as goal

pub returns : goal.returns
returns c = nothing_told
