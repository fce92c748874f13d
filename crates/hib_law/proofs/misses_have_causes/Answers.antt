use Rattle.hib_law.proofs.Misses.{have_causes}
use Rattle.hib_law.proofs.misses_have_causes.Goals as goal

pub returns : goal.returns
returns c = record { misses = have_causes }
