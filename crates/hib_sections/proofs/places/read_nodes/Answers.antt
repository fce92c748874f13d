use Rattle.hib_sections.proofs.PlacesFit.{are_fit_if}
use Rattle.hib_sections.proofs.places.read_nodes.Goals as goal

pub returns-clause-fit : goal.returns-clause-fit
returns-clause-fit c = are_fit_if c.args.mapping.now c.args.sessions.now c.args.before.now c.args.behind.now c.places_said.result c.places_said.ensures.places
