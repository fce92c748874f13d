use Rattle.hib_make.specs.Draws.{many}
use Rattle.hib_make.specs.Sessions.{session}
use Rattle.hib_make.proofs.Many.{Grown}
use Rattle.hib_make.proofs.sessions.push_sessions.Given as goal

abbrev pub invariant-loop-i : goal.invariant-loop-i
invariant-loop-i l = Grown l.fn.sessions.items l.sessions.items l.draws (many session l.i l.fn.draws)
