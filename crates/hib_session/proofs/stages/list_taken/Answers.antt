use Rattle.std.proofs.Common.{sym, ◌∙◌}
use Rattle.hib_session.proofs.Taken.{list_flushed}
use Rattle.hib_session.proofs.stages.list_taken.Goals as goal

pub returns-then-branch : goal.returns-then-branch
returns-then-branch c = λ mine mode go k.
    list_flushed c.args.script.now c.in_ok-flush.field-0 c.args.query mode mine go (c.in_ok-flush.ensures mine k) (sym (c.in_ok-must_flush.ensures mine k) ∙ c.if-branch.true)
