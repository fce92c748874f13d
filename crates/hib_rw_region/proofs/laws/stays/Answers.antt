use Rattle.hib_rw_region.proofs.Grows.{stays, restarts, begins, has_few}
use Rattle.hib_rw_region.proofs.laws.stays.Goals as goal

pub returns-clause-elsewhere : goal.returns-clause-elsewhere
returns-clause-elsewhere c = stays

pub returns-clause-restart : goal.returns-clause-restart
returns-clause-restart c = restarts

pub returns-clause-begin : goal.returns-clause-begin
returns-clause-begin c = begins

pub returns-clause-few : goal.returns-clause-few
returns-clause-few c = has_few
