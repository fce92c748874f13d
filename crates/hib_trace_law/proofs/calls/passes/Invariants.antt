use Rattle.std.proofs.Common.{◌≡◌, ◌-◌, drop}
use Rattle.hib_trace_law.specs.Placings.{may_be}
use Rattle.hib_trace_law.proofs.calls.passes.Given as goal

abbrev pub invariant-loop-at : goal.invariant-loop-at
invariant-loop-at l = may_be (l.seen.place - l.at) (drop l.at l.calls) l.seen ≡ may_be l.seen.place l.calls l.seen
