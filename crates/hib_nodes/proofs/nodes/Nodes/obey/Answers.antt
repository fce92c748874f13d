use Rattle.std.proofs.Common.{◌≡◌, true, sym, subst}
use Rattle.hib_playing.specs.Playing.{Leads, played}
use Rattle.hib_nodes_law.specs.declared.nodes.NodeOrder.{NodeOrder}
use Rattle.hib_nodes.specs.Kept.{past}
use Rattle.hib_nodes.specs.Played.{play_order}
use Rattle.hib_nodes.specs.Standing.{is_node}
use Rattle.hib_engines.proofs.Outcomes.{err_all}
use Rattle.hib_nodes.proofs.Playing.{delivers_by, first_node, order_delivers, second_node, stopped_at}
use Rattle.hib_nodes.proofs.nodes.Nodes.obey.Goals as goal
use Rattle.hib_nodes.proofs.nodes.Nodes.obey.Goals.{then-node-eq1-via-then-node-eq1, then-node-eq1-via-else-node-eq1+then-node-eq2}

pub returns-in_ok-deliver-in-Deliver-clause-played : goal.returns-in_ok-deliver-in-Deliver-clause-played
returns-in_ok-deliver-in-Deliver-clause-played g c =
    let script = g.N.Name.script in
    let n = c.in-Deliver.node in
    let old = past c.args.self.now.journal in
    let new = past c.deliver.new.self.journal in
    let i : is_node n ≡ true = elim c.then-node-eq1.branch [
      | then-node-eq1-via-then-node-eq1 w ↦ first_node n w.if-node-eq1.true
      | then-node-eq1-via-else-node-eq1+then-node-eq2 w ↦ second_node n w.if-node-eq2.true
    ] in
    subst (λ (o : NodeOrder). Leads (play_order script o) played old new) (sym c.in-Deliver.is)
    (order_delivers script n old new i (delivers_by script n c.in_ok-deliver-in-Deliver.field-0 c.deliver.result old new c.in_ok-deliver-in-Deliver.was c.deliver.ensures.delivered c.deliver.ensures.none))

pub returns-in_err-deliver-in-Deliver-clause-stopped : goal.returns-in_err-deliver-in-Deliver-clause-stopped
returns-in_err-deliver-in-Deliver-clause-stopped g c =
    let failed = c.in_err-deliver-in-Deliver.ensures in
    err_all c.from_residual.result _ (stopped_at g.N.Name.from c.args.self.now c.deliver.new.self failed.same failed.asked failed.refused)
