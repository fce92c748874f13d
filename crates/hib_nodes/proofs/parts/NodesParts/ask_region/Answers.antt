use Rattle.std.proofs.Common.{sym, ap, subst, ◌∙◌}
use Rattle.hib_engines.proofs.Outcomes.{map_ok}
use Rattle.hib_engines.specs.Region.{IsPlaced}
use Rattle.hib_engines.specs.Regions.{region_of}
use Rattle.hib_engines.specs.Served.{IsServed}
use Rattle.hib_nodes.specs.Standing.{NodeState, NodesPartsState, node_in}
use Rattle.hib_nodes.proofs.Sides.{at_first, at_second}
use Rattle.hib_nodes.proofs.parts.NodesParts.ask_region.Goals as goal

pub returns-then-node-eq2-clause-served : goal.returns-then-node-eq2-clause-served
returns-then-node-eq2-clause-served g c = map_ok c.ask_region.result _ _ c.ask_region.ensures.served (λ r p script l by k late e u.
    let n = c.args.node in
    let x : NodesPartsState = record { store = c.self.inside.store; stamps = c.self.inside.stamps; results = c.self.inside.results; first = c.self.inside.first; second = c.self.inside.second } in
    let y : NodesPartsState = record { store = c.self.inside.store; stamps = c.self.inside.stamps; results = c.self.inside.results; first = c.self.inside.first; second = c.ask_region.new.self } in
    let q = c.if-node-eq2.true in
    subst (λ (z : NodeState). IsServed (λ m. IsPlaced script c.args.entity m (region_of z.regions c.args.entity)) script l by c.args.now c.args.act.now r) (sym (at_second n y q))
    (p script l by (subst (λ (z : NodeState). IsPlaced script c.args.entity l (region_of z.regions c.args.entity)) (ap (λ v. node_in v n) (sym c.self.view_is) ∙ at_second n x q) k) late e u))

pub returns-else-node-eq2-clause-served : goal.returns-else-node-eq2-clause-served
returns-else-node-eq2-clause-served g c = map_ok c.ask_region-else-node-eq2.result _ _ c.ask_region-else-node-eq2.ensures.served (λ r p script l by k late e u.
    let n = c.args.node in
    let x : NodesPartsState = record { store = c.self.inside.store; stamps = c.self.inside.stamps; results = c.self.inside.results; first = c.self.inside.first; second = c.self.inside.second } in
    let y : NodesPartsState = record { store = c.self.inside.store; stamps = c.self.inside.stamps; results = c.self.inside.results; first = c.ask_region-else-node-eq2.new.self; second = c.self.inside.second } in
    let q = c.if-node-eq2.false in
    subst (λ (z : NodeState). IsServed (λ m. IsPlaced script c.args.entity m (region_of z.regions c.args.entity)) script l by c.args.now c.args.act.now r) (sym (at_first n y q))
    (p script l by (subst (λ (z : NodeState). IsPlaced script c.args.entity l (region_of z.regions c.args.entity)) (ap (λ v. node_in v n) (sym c.self.view_is) ∙ at_first n x q) k) late e u))
