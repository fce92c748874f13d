use Rattle.hib_top.proofs.Audited.{few_entries}
use Rattle.hib_top.proofs.audit.judge_journal.Goals as goal

pub audit-requires-clause-few : goal.audit-requires-clause-few
audit-requires-clause-few g c = few_entries c.args.input.journal c.requires.few
