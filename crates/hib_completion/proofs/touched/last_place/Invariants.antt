use Rattle.std.specs.Option.{option_or}
use Rattle.std.proofs.Common.{◌≡◌, drop}
use Rattle.hib_base.specs.Tables.{last_on}
use Rattle.hib_completion.specs.Touched.{at_place}
use Rattle.hib_completion.proofs.touched.last_place.Given as goal

-- the last change of the key is one of the rest, or else one so far
abbrev pub invariant-loop-place : goal.invariant-loop-place
invariant-loop-place l = option_or (last_on l.key (drop l.place l.changes)) (at_place l.changes l.last) ≡ last_on l.key l.changes
