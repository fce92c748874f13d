use Rattle.hib_update_stamps.proofs.Grown.{followed}
use Rattle.hib_update_stamps.proofs.laws.stamps_follow.Goals as goal

pub returns : goal.returns
returns c timeout stamps h e stands = followed timeout stamps h e stands
