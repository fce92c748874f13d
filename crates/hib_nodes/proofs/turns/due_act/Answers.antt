use Rattle.hib_session.specs.Session.{number_of}
use Rattle.hib_engines.proofs.Outcomes.{map_some}
use Rattle.hib_engines.proofs.Allowed.{is_due}
use Rattle.hib_nodes.proofs.turns.due_act.Goals as goal

pub returns-clause-due : goal.returns-clause-due
returns-clause-due c = λ mine f. map_some c.in_ok-act.act _ _ (c.in_ok-act.ensures.allowed mine f)
    (λ a w. is_due c.args.script.now (number_of c.args.session.now) mine a c.requires.queries w)
