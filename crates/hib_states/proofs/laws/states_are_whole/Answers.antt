use Rattle.hib_states.proofs.Whole.{told_whole}
use Rattle.hib_states.proofs.laws.states_are_whole.Goals as goal

pub returns : goal.returns
returns c script start h = told_whole script start h
