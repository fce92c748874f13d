use Rattle.hib_listeners.proofs.Counted.{counted_below}
use Rattle.hib_listeners.proofs.laws.counts_are_few.Goals as goal

pub returns : goal.returns
returns c = counted_below
