use Rattle.hib_trace_law.proofs.Explained.{least}
use Rattle.hib_trace_law.proofs.laws.ages_are_least.Goals as goal

pub returns : goal.returns
returns c = record { least = least }
