use Rattle.hib_trace_law.proofs.Pairs.{back}
use Rattle.hib_trace_law.proofs.laws.answers_went_back.Goals as goal

pub returns : goal.returns
returns c = record { back = back }
