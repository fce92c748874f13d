use Rattle.hib_order_schedule.proofs.Shown.{comes_again}
use Rattle.hib_order_schedule.proofs.laws.shown_runs_come_again.Goals as goal

pub returns : goal.returns
returns c = record { again = comes_again }
