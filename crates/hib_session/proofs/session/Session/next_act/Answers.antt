use Rattle.hib_session.proofs.Taking.{if_allowed, if_ended}
use Rattle.hib_session.proofs.session.Session.next_act.Goals as goal

pub returns-clause-allowed : goal.returns-clause-allowed
returns-clause-allowed c = λ mine f. if_allowed c.args.script.now c.args.self.now mine c.in_ok-act.act f (c.in_ok-act.ensures mine f.knows f.stands)

pub returns-clause-ended : goal.returns-clause-ended
returns-clause-ended c = λ mine f n d. if_ended c.args.script.now c.args.self.now mine c.in_ok-act.act f (c.in_ok-act.ensures mine f.knows f.stands) n d
