use Rattle.hib_toolbox.proofs.Stated.{few_entries}
use Rattle.hib_toolbox.proofs.states.state_journal.Goals as goal

pub states_of-requires-clause-few : goal.states_of-requires-clause-few
states_of-requires-clause-few g c = few_entries c.args.input.journal c.requires.few
