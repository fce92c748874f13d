use Rattle.hib_trace_findings.proofs.Lost.{lost}
use Rattle.hib_trace_findings.proofs.laws.lost_updates_are_certain.Goals as goal

pub returns : goal.returns
returns c = lost
