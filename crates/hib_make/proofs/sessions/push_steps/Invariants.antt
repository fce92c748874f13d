use Rattle.hib_make.specs.Draws.{many}
use Rattle.hib_make.specs.Sessions.{step}
use Rattle.hib_make.proofs.Many.{Grown}
use Rattle.hib_make.proofs.sessions.push_steps.Given as goal

abbrev pub invariant-loop-i : goal.invariant-loop-i
invariant-loop-i l = Grown l.fn.statements.items l.statements.items l.draws (many (step l.session) l.i l.fn.draws)
