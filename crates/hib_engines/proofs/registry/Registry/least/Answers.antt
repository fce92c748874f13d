use Rattle.std.proofs.Common.{sym, subst}
use Rattle.hib_engines.specs.Registry.{IsLeast}
use Rattle.hib_engines.proofs.Least.{least_is}
use Rattle.hib_engines.proofs.registry.Registry.least.Goals as goal

pub returns : goal.returns
returns c = λ l k. subst (λ o. IsLeast o l) (sym c.oldest.ensures) (least_is c.args.self.now l k)
