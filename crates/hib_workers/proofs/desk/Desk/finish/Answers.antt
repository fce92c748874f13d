use Rattle.std.proofs.Common.{◌≡◌, false, rules}
use Rattle.hib_workers.proofs.Turns.{worked_on, finished_on, asked_by}
use Rattle.hib_workers.proofs.desk.Desk.finish.Goals as goal

pub invariant_of-self : goal.invariant_of-self
invariant_of-self g c =
    let old = c.self.inside.factory in
    let new = c.finish.new.self in
    let going : old.refused ≡ false = search rules in
    worked_on g.N.Name.script g.N.Name.from g.H.Handed.factory old new c.self.invariant going c.finish.ensures.inside c.finish.ensures.ran.law
    (finished_on c.finish.result _ _ old new c.finish.ensures.played c.finish.ensures.ran.stands)
    (asked_by c.finish.result g.N.Name.from old new going c.finish.ensures.ran.going c.finish.ensures.ran.asked)
