use Rattle.hib_bulk_region.proofs.Grows.{stays, begins}
use Rattle.hib_bulk_region.proofs.laws.stays.Goals as goal

pub returns-clause-elsewhere : goal.returns-clause-elsewhere
returns-clause-elsewhere c = stays

pub returns-clause-begin : goal.returns-clause-begin
returns-clause-begin c = begins
