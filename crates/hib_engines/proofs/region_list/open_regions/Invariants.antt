use Rattle.std.proofs.Common.{◌≡◌, map, take}
use Rattle.hib_engines.specs.Region.{empty}
use Rattle.hib_engines.proofs.region_list.open_regions.Given as goal

abbrev pub invariant-loop-entity : goal.invariant-loop-entity
invariant-loop-entity l = l.regions.items ≡ map (λ d. empty d.strategy d.capacity l.script.timeout) (take l.entity-index l.entity-items)
