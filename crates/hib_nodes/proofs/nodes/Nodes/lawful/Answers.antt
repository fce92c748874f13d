use Rattle.std.proofs.Common.{subst}
use Rattle.hib_nodes_law.specs.Apart.{AreOfParts}
use Rattle.hib_nodes.specs.Kept.{past}
use Rattle.hib_nodes.specs.Run.{NodesState, Obeys}
use Rattle.hib_nodes.proofs.Obeyed.{obeyed}
use Rattle.hib_nodes.proofs.nodes.Nodes.lawful.Goals as goal

pub returns-clause-law : goal.returns-clause-law
returns-clause-law g c =
    let run = c.self.invariant.4.run in
    subst (λ (v : NodesState). Obeys g.N.Name.script g.N.Name.places g.N.Name.from.tables (past v.journal)) c.self.view_is
    (obeyed g.N.Name.script g.N.Name.places g.N.Name.from (past c.self.inside.shared.journal) c.self.inside.shared.parts run c.apart_is_legal.ensures.legal c.nodes_cohere.ensures.items c.steps_are_in_order.ensures.steps)

pub returns-clause-told : goal.returns-clause-told
returns-clause-told g c =
    let script = g.N.Name.script in
    let places = g.N.Name.places in
    let told = g.N.Name.from.tables in
    let h = past c.self.inside.shared.journal in
    let run = c.self.invariant.4.run in
    subst (λ (v : NodesState). AreOfParts (past v.journal)) c.self.view_is
    (c.parts_tell.ensures.told script told places h (c.apart_is_legal.ensures.legal script told places h run.turns run.apart))
