use Rattle.std.proofs.Common.{◌≡◌, ◌++◌, drop}
use Rattle.std.specs.Map.{keys_of as keys_in}
use Rattle.hib_completion.specs.Completed.{keys_acts}
use Rattle.hib_completion.specs.Touched.{StandsFor}
use Rattle.hib_completion.proofs.completing.all_completed.Given as goal

-- the acts so far and those of the rest are all
abbrev pub invariant-loop-place : goal.invariant-loop-place
invariant-loop-place l = StandsFor l.changes l.touched
    → l.acts ++ keys_acts l.mapping l.changes l.locks.entries l.done l.floor (drop l.place (keys_in l.touched.firsts.entries)) ≡ keys_acts l.mapping l.changes l.locks.entries l.done l.floor (keys_in l.touched.firsts.entries)
