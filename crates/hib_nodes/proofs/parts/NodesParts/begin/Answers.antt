use Rattle.std.proofs.Common.{Some, sym, ap, subst, ◌∙◌}
use Rattle.hib_engines.proofs.Outcomes.{map_ok}
use Rattle.hib_engines.specs.Registry.{IsRegistry}
use Rattle.hib_engines.specs.Served.{IsServed}
use Rattle.hib_nodes.specs.Standing.{NodeState, NodesPartsState, node_in}
use Rattle.hib_nodes.proofs.Sides.{at_first, at_second}
use Rattle.hib_nodes.proofs.parts.NodesParts.begin.Goals as goal

pub returns-then-node-eq2-clause-served : goal.returns-then-node-eq2-clause-served
returns-then-node-eq2-clause-served g c = map_ok c.begin.result _ _ c.begin.ensures.served (λ r p script l k late e.
    let n = c.args.node in
    let x : NodesPartsState = record { store = c.self.inside.store; stamps = c.self.inside.stamps; results = c.self.inside.results; first = c.self.inside.first; second = c.self.inside.second } in
    let y : NodesPartsState = record { store = c.self.inside.store; stamps = c.self.inside.stamps; results = c.self.inside.results; first = c.self.inside.first; second = c.begin.new.self } in
    let q = c.if-node-eq2.true in
    subst (λ (z : NodeState). IsServed (λ m. IsRegistry z.registry m) script l (Some c.args.session) c.args.now c.args.act.now r) (sym (at_second n y q))
    (p script l (subst (λ (z : NodeState). IsRegistry z.registry l) (ap (λ v. node_in v n) (sym c.self.view_is) ∙ at_second n x q) k) late e))

pub returns-else-node-eq2-clause-served : goal.returns-else-node-eq2-clause-served
returns-else-node-eq2-clause-served g c = map_ok c.begin-else-node-eq2.result _ _ c.begin-else-node-eq2.ensures.served (λ r p script l k late e.
    let n = c.args.node in
    let x : NodesPartsState = record { store = c.self.inside.store; stamps = c.self.inside.stamps; results = c.self.inside.results; first = c.self.inside.first; second = c.self.inside.second } in
    let y : NodesPartsState = record { store = c.self.inside.store; stamps = c.self.inside.stamps; results = c.self.inside.results; first = c.begin-else-node-eq2.new.self; second = c.self.inside.second } in
    let q = c.if-node-eq2.false in
    subst (λ (z : NodeState). IsServed (λ m. IsRegistry z.registry m) script l (Some c.args.session) c.args.now c.args.act.now r) (sym (at_first n y q))
    (p script l (subst (λ (z : NodeState). IsRegistry z.registry l) (ap (λ v. node_in v n) (sym c.self.view_is) ∙ at_first n x q) k) late e))
