use Rattle.hib_order_schedule.proofs.Same.{run_same}
use Rattle.hib_order_schedule.proofs.laws.schedules_change_no_run.Goals as goal

pub returns : goal.returns
returns c = record { same = λ script start most_kills os es r. run_same script os start most_kills es r }
