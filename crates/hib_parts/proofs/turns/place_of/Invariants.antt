use Rattle.hib_parts.specs.Run.{IsFirst}
use Rattle.hib_parts.proofs.turns.place_of.Given as goal

abbrev pub invariant-loop-place : goal.invariant-loop-place
invariant-loop-place g l = IsFirst l.entity l.place l.regions
