use Rattle.hib_order_schedule.proofs.Fitting.{fitting}
use Rattle.hib_order_schedule.proofs.laws.shown_runs_fit.Goals as goal

pub returns : goal.returns
returns c = record { fits = fitting }
