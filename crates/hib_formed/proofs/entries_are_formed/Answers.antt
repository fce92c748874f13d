use Rattle.hib_formed.proofs.Formed.{formed}
use Rattle.hib_formed.proofs.entries_are_formed.Goals as goal

pub returns : goal.returns
returns c = record { formed = formed }
