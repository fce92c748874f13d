use Rattle.std.proofs.Common.{refl, sym, subst}
use Rattle.hib_nodes.specs.Standing.{NodeState, IsAtNode}
use Rattle.hib_nodes.proofs.Fenced.{node_fenced}
use Rattle.hib_nodes.proofs.node.Node.fence.Goals as goal

pub returns-clause-fenced : goal.returns-clause-fenced
returns-clause-fenced c = λ script g k early late rw_k.
    let x : NodeState = record { registry = c.self.inside.registry; regions = c.self.inside.regions.items } in
    let y : NodeState = record { registry = c.self.inside.registry; regions = c.fence_region.new.regions.items } in
    node_fenced script g c.args.key c.args.now c.floor-floor.result c.in_ok-locked.locked c.in_ok-locked.unlocked c.fence_entries.result.0 c.fence_entries.result.1 x y
    (subst (λ v. IsAtNode script g v) (sym c.self.view_is) k) early late rw_k c.floor-floor.ensures c.fence_entries.ensures.lock c.fence_entries.ensures.unlock
    c.in_ok-locked.ensures.fenced c.in_ok-locked.ensures.others refl
