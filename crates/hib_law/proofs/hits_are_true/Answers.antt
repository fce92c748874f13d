use Rattle.hib_law.proofs.Hits.{hits_true}
use Rattle.hib_law.proofs.hits_are_true.Goals as goal

pub returns : goal.returns
returns c = record { hits = hits_true }
