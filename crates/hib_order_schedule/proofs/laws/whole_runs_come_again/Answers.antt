use Rattle.hib_order_schedule.proofs.Shown.{whole_again}
use Rattle.hib_order_schedule.proofs.laws.whole_runs_come_again.Goals as goal

pub returns : goal.returns
returns c = record { again = whole_again }
