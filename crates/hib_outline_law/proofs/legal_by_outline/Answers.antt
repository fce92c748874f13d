use Rattle.hib_outline_law.proofs.Whole.{legal}
use Rattle.hib_outline_law.proofs.legal_by_outline.Goals as goal

pub returns : goal.returns
returns c = record { legal = legal }
