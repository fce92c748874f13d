use Rattle.hib_law.proofs.Joined.{floors_low}
use Rattle.hib_law.proofs.floors_are_low.Goals as goal

pub returns : goal.returns
returns c = record { floors = floors_low }
