use Rattle.std.proofs.Common.{◌≡◌, ◌≤◌, ◌-◌, ◌++◌, length, drop}
use Rattle.hib_order_schedule.specs.Schedules.{runs_of}
use Rattle.hib_order_schedule.proofs.runs.runs_of.Given as goal

abbrev pub invariant-loop-done : goal.invariant-loop-done
invariant-loop-done l = record { inside : l.done ≤ length l.order; made : l.runs.items ++ runs_of (drop l.done l.order) ≡ runs_of l.order }

abbrev pub decreases-loop-done : goal.decreases-loop-done
decreases-loop-done l = length l.order - l.done
