use Rattle.std.proofs.Common.{◌≡◌, ◌-◌, true, length, drop}
use Rattle.hib_order_schedule.specs.Schedules.{rises}
use Rattle.hib_order_schedule.proofs.runs.tail_place.Given as goal

abbrev pub invariant-loop-gone : goal.invariant-loop-gone
invariant-loop-gone l = rises (drop (length l.order - l.gone) l.order) ≡ true
