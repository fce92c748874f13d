use Rattle.hib_engines.proofs.RegistryServed.{kill_stands}
use Rattle.hib_engines.proofs.registry.Registry.kill.Goals as goal

pub returns-clause-stands : goal.returns-clause-stands
returns-clause-stands c = λ l now k late. kill_stands l c.args.session now c.args.self.now c.end.new.self k late c.end.ensures.gone
