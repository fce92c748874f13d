use Rattle.std.proofs.Common.{◌≡◌}
use Rattle.hib_core.specs.Factory.{left_at}
use Rattle.hib_serve.specs.Sessions.{HasRun}
use Rattle.hib_serve.proofs.sessions.make_steps.Given as goal

abbrev pub decreases-steps : goal.decreases-steps
decreases-steps g l = left_at l.core.script l.number l.core.sessions

abbrev pub invariant-steps : goal.invariant-steps
invariant-steps g l = record {
  asked : l.core.script ≡ l.fn.core.script;
  ran : HasRun l.number l.fn.core.journal l.core.journal;
}
