use Rattle.hib_engines.proofs.Elsewhere.{registry_kept, region_kept}
use Rattle.hib_engines.proofs.Stored.{store_stays}
use Rattle.hib_engines.proofs.StampsServed.{stamps_stay}
use Rattle.hib_engines.proofs.ResultsServed.{results_stay}
use Rattle.hib_engines.proofs.joined.entries_elsewhere.Goals as goal

pub returns-clause-registry : goal.returns-clause-registry
returns-clause-registry c = registry_kept

pub returns-clause-store : goal.returns-clause-store
returns-clause-store c = store_stays

pub returns-clause-stamps : goal.returns-clause-stamps
returns-clause-stamps c = stamps_stay c.laws.ensures

pub returns-clause-results : goal.returns-clause-results
returns-clause-results c = results_stay c.laws.ensures

pub returns-clause-region : goal.returns-clause-region
returns-clause-region c = region_kept c.laws.ensures
