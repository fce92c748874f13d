use Rattle.hib_engines.proofs.RegionServed.{restart_placed}
use Rattle.hib_engines.proofs.region.Region.restart.Goals as goal

pub returns-clause-stands : goal.returns-clause-stands
returns-clause-stands c = λ script l n now k. restart_placed c.laws.ensures script l n now c.args.self.now c.clear.new.self k c.clear.ensures
