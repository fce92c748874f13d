use Rattle.hib_other_regions.proofs.Answers.{read_only_puts, read_only_inserts}
use Rattle.hib_other_regions.proofs.laws.read_only_answers.Goals as goal

pub returns-clause-put : goal.returns-clause-put
returns-clause-put c = read_only_puts

pub returns-clause-after_insert : goal.returns-clause-after_insert
returns-clause-after_insert c = read_only_inserts
