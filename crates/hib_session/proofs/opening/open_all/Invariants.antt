use Rattle.hib_session.proofs.Together.{AreOpened}
use Rattle.hib_session.proofs.opening.open_all.Given as goal

abbrev pub invariant-loop-number : goal.invariant-loop-number
invariant-loop-number l = AreOpened l.number l.script l.sessions.items
