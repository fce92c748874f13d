use Rattle.std.proofs.Common.{◌≡◌, [], take}
use Rattle.hib_completion.specs.Completed.{keys_acts}
use Rattle.hib_completion.proofs.Few.{gathered}
use Rattle.hib_completion.proofs.completing.risen_completed.Given as goal

-- the acts so far are those of the keys so far
abbrev pub invariant-loop-place : goal.invariant-loop-place
invariant-loop-place l = l.acts ≡ keys_acts l.mapping l.changes l.locks.entries l.done l.floor (gathered [] (take l.place l.changes))
