use Rattle.std.proofs.Common.{◌≡◌, map, take}
use Rattle.hib_bulk.specs.Regions.{opened}
use Rattle.hib_bulk.proofs.opening.open_regions.Given as goal

abbrev pub invariant-loop-entity : goal.invariant-loop-entity
invariant-loop-entity l = l.regions.items ≡ map (λ d. opened d.strategy d.capacity l.script.timeout) (take l.entity-index l.entity-items)
