use Rattle.std.proofs.Common.{take}
use Rattle.hib_traces.specs.Places.{Tell}
use Rattle.hib_traces.proofs.places.each_place.Given as goal

abbrev pub invariant-loop-commit : goal.invariant-loop-commit
invariant-loop-commit l = Tell l.order.commits.items (take l.commit-index l.sources) l.places.items
