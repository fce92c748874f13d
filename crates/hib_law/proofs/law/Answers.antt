use Rattle.hib_law.proofs.Joined.{coheres, obeyed}
use Rattle.hib_law.proofs.law.Goals as goal

pub returns : goal.returns
returns c = record { law = coheres; obeyed = obeyed }
