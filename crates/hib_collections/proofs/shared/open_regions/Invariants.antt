use Rattle.std.proofs.Common.{◌≡◌, map, take}
use Rattle.hib_journal.specs.Types.{Strategy}
use Rattle.hib_engines.specs.Region.{empty}
use Rattle.hib_collections.proofs.shared.open_regions.Given as goal

abbrev pub invariant-loop-def : goal.invariant-loop-def
invariant-loop-def l = l.regions.items ≡ map (λ d. empty Strategy.ReadWrite d.capacity l.script.timeout) (take l.def-index l.def-items)
