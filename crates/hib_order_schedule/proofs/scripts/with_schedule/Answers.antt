use Rattle.hib_order_schedule.proofs.Valid.{stays_valid}
use Rattle.hib_order_schedule.proofs.scripts.with_schedule.Goals as goal

pub returns-clause-valid : goal.returns-clause-valid
returns-clause-valid c = stays_valid c.args.script c.args.schedule
