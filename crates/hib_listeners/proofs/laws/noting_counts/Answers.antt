use Rattle.hib_listeners.proofs.Counted.{noted_counted}
use Rattle.hib_listeners.proofs.laws.noting_counts.Goals as goal

pub returns : goal.returns
returns c = noted_counted
