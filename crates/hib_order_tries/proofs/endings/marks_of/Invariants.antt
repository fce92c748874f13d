use Rattle.std.proofs.Common.{◌≡◌, take}
use Rattle.hib_order_tries.specs.Marks.{marks_of}
use Rattle.hib_order_tries.proofs.endings.marks_of.Given as goal

abbrev pub invariant-loop-place : goal.invariant-loop-place
invariant-loop-place l = l.marks.items ≡ marks_of (take l.place l.outcomes)
