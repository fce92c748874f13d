use Rattle.hib_trace_law.proofs.Free.{complete}
use Rattle.hib_trace_law.proofs.laws.refusals_are_complete.Goals as goal

pub returns : goal.returns
returns c = record { complete = complete }
