use Rattle.hib_engines.proofs.Ready.{ready}
use Rattle.hib_parts.proofs.parts.built.Goals as goal

pub returns : goal.returns
returns c = λ script valid. ready script valid
