use Rattle.std.proofs.Common.{◌≡◌, Bool, false, Ok, ap, ◌∙◌}
use Rattle.hib_nodes.specs.Kept.{past}
use Rattle.hib_nodes.proofs.Delivering.{ok_false, rested}
use Rattle.hib_nodes.proofs.nodes.Nodes.take_pair.Goals as goal

pub invariant_of-self : goal.invariant_of-self
invariant_of-self g c =
    let i = c.self.invariant in
    let b : Bool = c.in-Ok.delivered in
    let rest = rested g.N.Name.script g.N.Name.from c.args.node b (past c.self.inside.shared.journal) (past c.deliver.new.shared.journal) c.self.inside.shared.parts c.deliver.new.shared.parts
    c.self.inside.sessions.items (c.self.inside.refused ≡ false) (λ e. c.deliver.ensures.delivered (c.in-Ok.is ∙ ap (λ z. Ok z) e)) (λ e. c.deliver.ensures.same (ok_false c.deliver.result (c.in-Ok.is ∙ ap (λ z. Ok z) e)))
    c.deliver.ensures.store i.5 i.6 in
    (i.0, i.1, i.2, i.3, c.deliver.ensures.shared, rest.sessions, rest.asked)
