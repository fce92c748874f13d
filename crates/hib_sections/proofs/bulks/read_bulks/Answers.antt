use Rattle.hib_sections.proofs.BulksFit.{are_fit_if}
use Rattle.hib_sections.proofs.bulks.read_bulks.Goals as goal

pub returns-clause-fit : goal.returns-clause-fit
returns-clause-fit c = are_fit_if c.args.mapping.now c.args.sessions.now c.args.before.now c.args.behind.now c.bulks_said.result c.bulks_said.ensures.bulks
