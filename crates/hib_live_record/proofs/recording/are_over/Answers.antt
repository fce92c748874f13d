use Rattle.std.proofs.Common.{ap, ◌∙◌}
use Rattle.hib_base.specs.Scripts.{ends}
use Rattle.hib_live_record.proofs.Ends.{over_at}
use Rattle.hib_live_record.proofs.recording.are_over.Goals as goal

pub returns-then-count-gt0 : goal.returns-then-count-gt0
returns-then-count-gt0 c =
    c.ends.ensures ∙ (ap ends c.index-statements-count.is ∙ over_at c.args.statements.now c.index-statements-count.result c.if-count-gt0.true)
