use Rattle.std.proofs.Common.{◌≡◌, ◌++◌, [], drop, length}
use Rattle.hib_listeners.specs.Places.{IsIndex, entities}
use Rattle.hib_listeners.specs.Statistics.{regions_counts}
use Rattle.hib_listeners.proofs.regions.RegionList.open.Given as goal

abbrev pub invariant-loop-def : goal.invariant-loop-def
invariant-loop-def l = record {
  index : IsIndex l.index.items (entities l.places.items);
  length_is : length l.index.items ≡ l.def-index;
  places : l.places.items ++ regions_counts [] l.def-index (drop l.def-index l.mapping) ≡ regions_counts [] 0 l.mapping;
}
