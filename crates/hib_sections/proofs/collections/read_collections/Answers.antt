use Rattle.hib_sections.proofs.Fit.{are_fit}
use Rattle.hib_sections.proofs.collections.read_collections.Goals as goal

pub returns-clause-fit : goal.returns-clause-fit
returns-clause-fit c = are_fit c.args.mapping.now c.args.before.now c.args.behind.now c.collections_said.result c.collections_said.ensures.defs
