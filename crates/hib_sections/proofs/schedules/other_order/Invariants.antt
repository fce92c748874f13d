use Rattle.std.proofs.Common.{◌≡◌, drop}
use Rattle.hib_sections.specs.Schedules.{other_order}
use Rattle.hib_sections.proofs.Scheduled.{rest_of}
use Rattle.hib_sections.proofs.schedules.other_order.Given as goal

abbrev pub invariant-loop-line : goal.invariant-loop-line
invariant-loop-line l = rest_of l.is_schedule (drop l.line-index l.lines) ≡ other_order l.lines
