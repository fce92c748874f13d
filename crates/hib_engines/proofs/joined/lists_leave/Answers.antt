use Rattle.hib_engines.proofs.Answered.{list_left}
use Rattle.hib_engines.proofs.joined.lists_leave.Goals as goal

pub returns : goal.returns
returns c = list_left c.laws.ensures
