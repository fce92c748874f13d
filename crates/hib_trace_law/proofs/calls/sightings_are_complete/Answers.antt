use Rattle.hib_trace_law.proofs.Placed.{complete}
use Rattle.hib_trace_law.proofs.calls.sightings_are_complete.Goals as goal

pub returns : goal.returns
returns c = record { complete = complete }
