use Rattle.hib_order_schedule.proofs.Once.{played_once}
use Rattle.hib_order_schedule.proofs.Plain.{undisturbed}
use Rattle.hib_order_schedule.proofs.laws.schedules_decide.Goals as goal

pub returns : goal.returns
returns c = record { once = played_once; undisturbed = undisturbed }
