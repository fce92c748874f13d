use Rattle.std.proofs.Common.{◌≡◌, ◌+◌, drop}
use Rattle.hib_order_schedule.specs.Schedules.{in_row}
use Rattle.hib_order_schedule.proofs.runs.steps_in_row.Given as goal

abbrev pub invariant-loop-place : goal.invariant-loop-place
invariant-loop-place l = in_row l.session l.order ≡ l.place + in_row l.session (drop l.place l.order)
