use Rattle.hib_workers.proofs.Turns.{handed_in}
use Rattle.hib_workers.proofs.desk.Desk.open.Goals as goal

pub invariant_of-result : goal.invariant_of-result
invariant_of-result g c = handed_in g.N.Name.script g.N.Name.from g.H.Handed.factory c.args.factory c.requires.handed c.requires.inside c.lawful.ensures.law
