use Rattle.hib_trace_law.proofs.Together.{exact}
use Rattle.hib_trace_law.proofs.calls.placings_are_found.Goals as goal

pub returns : goal.returns
returns c = record { exact = exact }
