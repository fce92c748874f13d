use Rattle.hib_other_regions.proofs.Answers.{nonstrict_puts}
use Rattle.hib_other_regions.proofs.laws.nonstrict_answers.Goals as goal

pub returns-clause-put : goal.returns-clause-put
returns-clause-put c = nonstrict_puts
