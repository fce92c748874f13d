use Rattle.hib_nodes.proofs.nodes.Nodes.take_step.Goals as goal

pub invariant_of-self : goal.invariant_of-self
invariant_of-self g c =
    let i = c.self.invariant in
    let t = c.in-Ok.ensures.turned in
    (i.0, i.1, i.2, i.3, t.shared, c.in-Ok.ensures.sessions, λ e. t.asked g.N.Name.from.asked (i.6 e))
