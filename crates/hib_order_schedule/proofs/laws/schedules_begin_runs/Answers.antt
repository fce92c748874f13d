use Rattle.hib_order_schedule.proofs.Begins.{begins_so}
use Rattle.hib_order_schedule.proofs.laws.schedules_begin_runs.Goals as goal

pub returns : goal.returns
returns c = record { begins = begins_so }
