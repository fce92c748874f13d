use Rattle.std.proofs.Common.{◌∷◌, ap, ◌∙◌}
use Rattle.hib_session.specs.declared.control.Stage.{Stage}
use Rattle.hib_session.specs.Control.{queued}
use Rattle.hib_journal.specs.Next.{completion}
use Rattle.hib_session.proofs.stages.answered.Goals as goal

pub returns-in_ok-acts-in-Committing-clause-follows : goal.returns-in_ok-acts-in-Committing-clause-follows
returns-in_ok-acts-in-Committing-clause-follows c = λ done go d r e.
    rw c.in-Committing.is (ap (λ acts. queued c.args.script.now c.args.mode acts Stage.Idle (c.args.entry.now ∷ done) go)
    (c.in_ok-acts-in-Committing.ensures.acts (c.args.entry.now ∷ done) r e ∙ ap (λ b. completion c.args.script.now c.args.mode b (c.args.entry.now ∷ done)) c.is_committed-committed.ensures))

pub returns-in_ok-acts-in-RollingBack-clause-follows : goal.returns-in_ok-acts-in-RollingBack-clause-follows
returns-in_ok-acts-in-RollingBack-clause-follows c = λ done go d r e.
    rw c.in-RollingBack.is (ap (λ acts. queued c.args.script.now c.args.mode acts Stage.Idle (c.args.entry.now ∷ done) go)
    (c.in_ok-acts-in-RollingBack.ensures.acts (c.args.entry.now ∷ done) r e))
