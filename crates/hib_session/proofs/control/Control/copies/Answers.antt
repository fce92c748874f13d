use Rattle.hib_session.proofs.Taken.{copies_first}
use Rattle.hib_session.proofs.control.Control.copies.Goals as goal

pub returns-clause-copies : goal.returns-clause-copies
returns-clause-copies c = copies_first c.args.self.now.queue _ _ c.first.ensures c.in_ok-copies.ensures.fit
