use Rattle.std.proofs.Common.{sym, ◌∙◌}
use Rattle.hib_workers.proofs.Turns.{worked_on, stepped_on, asked_by}
use Rattle.hib_workers.proofs.desk.Desk.step.Goals as goal

pub invariant_of-self : goal.invariant_of-self
invariant_of-self g c =
    let old = c.self.inside.factory in
    let new = c.step.new.self in
    let going = sym c.refused.ensures ∙ c.if-refused.false in
    worked_on g.N.Name.script g.N.Name.from g.H.Handed.factory old new c.self.invariant going c.step.ensures.inside c.step.ensures.ran.law
    (stepped_on c.step.result g.N.Name.script c.args.number old new c.step.ensures.did c.step.ensures.done c.step.ensures.ran.stands)
    (asked_by c.step.result g.N.Name.from old new going c.step.ensures.ran.going c.step.ensures.ran.asked)
