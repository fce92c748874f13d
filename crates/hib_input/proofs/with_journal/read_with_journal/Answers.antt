use Rattle.std.proofs.Common.{length}
use Rattle.hib_input.proofs.Whole.{rest_few, few_entries, whole_read}
use Rattle.hib_input.proofs.with_journal.read_with_journal.Goals as goal

pub returns-in-Ok-clause-few : goal.returns-in-Ok-clause-few
returns-in-Ok-clause-few c = few_entries c.read_cut.result _ (length c.args.text.now) c.read_cut.ensures.lines (rest_few c.args.text.now _ _)

pub returns-in-Ok-clause-whole : goal.returns-in-Ok-clause-whole
returns-in-Ok-clause-whole c = λ w. whole_read c.args.text.now _ _ c.read_cut.result c.read_cut.ensures.refused c.in-Ok.ensures.cut w
