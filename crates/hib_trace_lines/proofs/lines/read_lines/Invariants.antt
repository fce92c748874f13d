use Rattle.std.proofs.Common.{◌+◌, ◌-◌, ◌≤◌, length}
use Rattle.hib_trace_lines.proofs.SoFar.{ReadUpTo}
use Rattle.hib_trace_lines.proofs.lines.read_lines.Given as goal

abbrev pub decreases-loop-start : goal.decreases-loop-start
decreases-loop-start l = length l.text - l.start

abbrev pub invariant-loop-start : goal.invariant-loop-start
invariant-loop-start l = record {
  read : ReadUpTo l.text l.start l.events.items;
  within : l.start ≤ length l.text + 1;
}
