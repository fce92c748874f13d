use Rattle.std.proofs.Common.{ap, ◌∙◌}
use Rattle.hib_engines.specs.Registry.{holds}
use Rattle.hib_engines.proofs.Indexed.{is_held}
use Rattle.hib_engines.proofs.registry.Registry.is_open.Goals as goal

pub returns : goal.returns
returns c = c.contains_key.ensures ∙ (is_held c.self.inside.begun.entries c.self.inside.times.entries c.args.session c.self.invariant ∙ ap (holds c.args.session) c.self.view_is)
