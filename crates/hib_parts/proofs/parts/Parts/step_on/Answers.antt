use Rattle.hib_parts.proofs.Run.{registry_stepped, store_stepped, stamps_stepped, results_stepped, regions_stepped, own_stepped}
use Rattle.hib_parts.proofs.parts.Parts.step_on.Goals as goal

pub returns-in-Registry-clause-entered : goal.returns-in-Registry-clause-entered
returns-in-Registry-clause-entered g c = registry_stepped _ _ c.step_registry.result c.args.part c.args.self.now.registry c.step_registry.new.registry c.args.worker.now c.step_registry.new.worker c.step_registry.ensures.entered
    c.args.self.now.registry c.args.self.now.store.list c.args.self.now.stamps c.args.self.now.results c.args.self.now.regions.items c.in-Registry.is

pub returns-in-Store-clause-entered : goal.returns-in-Store-clause-entered
returns-in-Store-clause-entered g c = store_stepped _ _ c.step_store.result c.args.part c.args.self.now.store.list c.step_store.new.store.list c.args.worker.now c.step_store.new.worker c.step_store.ensures.entered
    c.args.self.now.registry c.args.self.now.store.list c.args.self.now.stamps c.args.self.now.results c.args.self.now.regions.items c.in-Store.is

pub returns-in-Stamps-clause-entered : goal.returns-in-Stamps-clause-entered
returns-in-Stamps-clause-entered g c = stamps_stepped _ _ c.step_stamps.result c.args.part c.args.self.now.stamps c.step_stamps.new.stamps c.args.worker.now c.step_stamps.new.worker c.step_stamps.ensures.entered
    c.args.self.now.registry c.args.self.now.store.list c.args.self.now.stamps c.args.self.now.results c.args.self.now.regions.items c.in-Stamps.is

pub returns-in-Results-clause-entered : goal.returns-in-Results-clause-entered
returns-in-Results-clause-entered g c = results_stepped _ _ c.step_results.result c.args.part c.args.self.now.results c.step_results.new.results c.args.worker.now c.step_results.new.worker c.step_results.ensures.entered
    c.args.self.now.registry c.args.self.now.store.list c.args.self.now.stamps c.args.self.now.results c.args.self.now.regions.items c.in-Results.is

pub returns-in-Region-clause-entered : goal.returns-in-Region-clause-entered
returns-in-Region-clause-entered g c = regions_stepped c.step_regions.result c.args.part c.in-Region.entity c.args.self.now.regions.items c.step_regions.new.regions.items c.args.worker.now c.step_regions.new.worker
    c.args.self.now.registry c.args.self.now.store.list c.args.self.now.stamps c.args.self.now.results c.in-Region.is c.step_regions.ensures.entered

pub returns-in-Own-clause-entered : goal.returns-in-Own-clause-entered
returns-in-Own-clause-entered g c = own_stepped c.step_own.result c.args.part c.in-Own.field-0 c.args.worker.now c.step_own.new.worker
    c.args.self.now.registry c.args.self.now.store.list c.args.self.now.stamps c.args.self.now.results c.args.self.now.regions.items c.in-Own.is c.step_own.ensures.entered
