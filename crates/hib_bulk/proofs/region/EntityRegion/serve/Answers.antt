use Rattle.std.proofs.Common.{◌≡◌, false, subst}
use Rattle.hib_bulk.specs.declared.region.EntityRegion.{EntityRegion}
use Rattle.hib_bulk.specs.Regions.{has_old_in}
use Rattle.hib_bulk.proofs.region.EntityRegion.serve.Goals as goal

pub act_on-requires-clause-swept : goal.act_on-requires-clause-swept
act_on-requires-clause-swept c = λ k p. subst (λ (x : EntityRegion). has_old_in x k.id ≡ false) c.in-ReadWrite.is (c.requires.swept k p)
