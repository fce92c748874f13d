use Rattle.std.proofs.Common.{◌∙◌}
use Rattle.hib_session.proofs.Refused.{picked}
use Rattle.hib_session.proofs.stages.completed.Goals as goal

pub returns-in-Some-clause-acts : goal.returns-in-Some-clause-acts
returns-in-Some-clause-acts c = λ mine r e.
    c.pick.ensures ∙ picked c.args.script.now c.args.mode mine c.in-Some.ending.acts c.args.committed (rw c.in-Some.is at e)
