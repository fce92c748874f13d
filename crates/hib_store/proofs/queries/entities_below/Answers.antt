use Rattle.hib_store.proofs.Kept.{one_entity}
use Rattle.hib_store.proofs.queries.entities_below.Goals as goal

pub loop-entity-preserved : goal.loop-entity-preserved
loop-entity-preserved c = λ n. one_entity n c.loop-entity.entity c.loop-entity.all.items c.push.new.self.items c.in_ok-push.ensures.items (c.loop-entity.invariant n)
