use Rattle.hib_traces.proofs.Certain.{old_is_false, new_is_false}
use Rattle.hib_traces.proofs.laws.verdicts_are_certain.Goals as goal

pub returns : goal.returns
returns c = record { old = old_is_false; new = new_is_false; possible = λ cs a p. p }
