use Rattle.std.proofs.Common.{ap, ◌∙◌}
use Rattle.hib_engines.specs.Registry.{floor_in}
use Rattle.hib_engines.proofs.Indexed.{first_time}
use Rattle.hib_engines.proofs.registry.Registry.floor.Goals as goal

pub returns-in-Some : goal.returns-in-Some
returns-in-Some c = first_time c.self.inside.begun.entries c.args.now _ _ c.in-Some.ensures.first ∙ ap (λ ps. floor_in ps c.args.now) c.self.view_is
