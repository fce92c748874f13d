use Rattle.std.proofs.Common.{refl, sym, subst}
use Rattle.hib_engines.proofs.Outcomes.{map_ok}
use Rattle.hib_nodes.specs.Fencing.{IsFencedAt}
use Rattle.hib_nodes.specs.Standing.{NodeState, NodesPartsState, AreStanding, IsAtNode}
use Rattle.hib_nodes.proofs.Fenced.{parts_fenced}
use Rattle.hib_nodes.proofs.Sides.{at_first, at_second, first_alone, second_alone}
use Rattle.hib_nodes.proofs.parts.NodesParts.fence.Goals as goal

pub returns-then-node-eq2-clause-fenced : goal.returns-then-node-eq2-clause-fenced
returns-then-node-eq2-clause-fenced g c = map_ok c.fence.result _ _ c.fence.ensures.fenced (λ f p script told h k b i rw_k.
    let n = c.args.node in
    let x : NodesPartsState = record { store = c.self.inside.store; stamps = c.self.inside.stamps; results = c.self.inside.results; first = c.self.inside.first; second = c.self.inside.second } in
    let y : NodesPartsState = record { store = c.self.inside.store; stamps = c.self.inside.stamps; results = c.self.inside.results; first = c.self.inside.first; second = c.fence.new.self } in
    let q = c.if-node-eq2.true in
    parts_fenced script told h n c.args.now c.args.key f.0 f.1 x y (subst (λ v. AreStanding script told h v) (sym c.self.view_is) k) b i rw_k
    (second_alone n x y q (record { store = refl; stamps = refl; results = refl }) refl)
    (λ j at early late w. subst (λ (z : NodeState). IsFencedAt script j c.args.key c.args.now f.0 f.1 z) (sym (at_second n y q))
    (p script j (subst (λ z. IsAtNode script j z) (at_second n x q) at) early late w)))

pub returns-else-node-eq2-clause-fenced : goal.returns-else-node-eq2-clause-fenced
returns-else-node-eq2-clause-fenced g c = map_ok c.fence-else-node-eq2.result _ _ c.fence-else-node-eq2.ensures.fenced (λ f p script told h k b i rw_k.
    let n = c.args.node in
    let x : NodesPartsState = record { store = c.self.inside.store; stamps = c.self.inside.stamps; results = c.self.inside.results; first = c.self.inside.first; second = c.self.inside.second } in
    let y : NodesPartsState = record { store = c.self.inside.store; stamps = c.self.inside.stamps; results = c.self.inside.results; first = c.fence-else-node-eq2.new.self; second = c.self.inside.second } in
    let q = c.if-node-eq2.false in
    parts_fenced script told h n c.args.now c.args.key f.0 f.1 x y (subst (λ v. AreStanding script told h v) (sym c.self.view_is) k) b i rw_k
    (first_alone n x y q (record { store = refl; stamps = refl; results = refl }) refl i)
    (λ j at early late w. subst (λ (z : NodeState). IsFencedAt script j c.args.key c.args.now f.0 f.1 z) (sym (at_first n y q))
    (p script j (subst (λ z. IsAtNode script j z) (at_first n x q) at) early late w)))
