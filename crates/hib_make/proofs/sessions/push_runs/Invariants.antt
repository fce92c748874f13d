use Rattle.hib_make.specs.Draws.{many}
use Rattle.hib_make.specs.Sessions.{run}
use Rattle.hib_make.proofs.Many.{Grown}
use Rattle.hib_make.proofs.sessions.push_runs.Given as goal

abbrev pub invariant-loop-place : goal.invariant-loop-place
invariant-loop-place l = Grown l.fn.orders.items l.orders.items l.draws (many (λ k x. run x) l._place l.fn.draws)
