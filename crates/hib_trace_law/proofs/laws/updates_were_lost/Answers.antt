use Rattle.hib_trace_law.proofs.Pairs.{lost}
use Rattle.hib_trace_law.proofs.laws.updates_were_lost.Goals as goal

pub returns : goal.returns
returns c = record { lost = lost }
