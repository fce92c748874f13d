use Rattle.hib_law.proofs.Answered.{finds_answered}
use Rattle.hib_law.proofs.finds_are_answered.Goals as goal

pub returns : goal.returns
returns c = record { finds = finds_answered }
