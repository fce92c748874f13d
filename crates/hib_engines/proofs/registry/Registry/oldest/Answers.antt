use Rattle.std.proofs.Common.{ap, ◌∙◌}
use Rattle.hib_engines.specs.Registry.{least_in}
use Rattle.hib_engines.proofs.Least.{first_least}
use Rattle.hib_engines.proofs.registry.Registry.oldest.Goals as goal

pub returns-in-Some : goal.returns-in-Some
returns-in-Some c = first_least c.self.inside.begun.entries _ _ c.in-Some.ensures.first ∙ ap least_in c.self.view_is
