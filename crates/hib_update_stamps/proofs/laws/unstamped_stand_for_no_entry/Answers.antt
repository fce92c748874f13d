use Rattle.hib_update_stamps.proofs.Grown.{none_at_first}
use Rattle.hib_update_stamps.proofs.laws.unstamped_stand_for_no_entry.Goals as goal

pub returns : goal.returns
returns c timeout tables = none_at_first timeout tables
