use Rattle.hib_update_stamps.proofs.Grown.{left}
use Rattle.hib_update_stamps.proofs.laws.other_acts_leave_stamps.Goals as goal

pub returns : goal.returns
returns c timeout stamps h e s stands other no_restart = left timeout stamps h e s stands other no_restart
