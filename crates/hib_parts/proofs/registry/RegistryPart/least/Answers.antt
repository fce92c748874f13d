use Rattle.std.proofs.Common.{subst}
use Rattle.hib_journal.specs.Sessions.{Journal}
use Rattle.hib_engines.specs.Registry.{IsLeast}
use Rattle.hib_parts.proofs.registry.RegistryPart.least.Goals as goal

pub returns : goal.returns
returns g c = subst (λ (l : Journal). IsLeast c.least.result l) c.self.view_is (c.least.ensures _ c.self.invariant.2)
