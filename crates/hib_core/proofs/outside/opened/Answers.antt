use Rattle.std.proofs.Common.{ap, ◌∙◌}
use Rattle.hib_engines.specs.Registry.{Opened, holds}
use Rattle.hib_engines.proofs.Opened.{holds_open}
use Rattle.hib_core.proofs.outside.opened.Goals as goal

pub returns : goal.returns
returns g c = λ h run.
    let x = c.args.engines.now in
    let n = c.args.number in
    c.is_open.ensures ∙ (ap (λ (ps : Opened). holds n ps) c.registry.ensures ∙ holds_open x.registry h n run.engines.registry)
