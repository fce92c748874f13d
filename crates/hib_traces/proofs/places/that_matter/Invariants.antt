use Rattle.hib_traces.proofs.Kept.{IsKept}
use Rattle.hib_traces.proofs.places.that_matter.Given as goal

abbrev pub invariant-loop-place : goal.invariant-loop-place
invariant-loop-place l = IsKept l.places l.place-index l.kept.items
