use Rattle.std.proofs.Common.{◌≡◌, drop}
use Rattle.hib_trace_lines.specs.Faults.{first_of}
use Rattle.hib_trace_lines.proofs.checks.first_of.Given as goal

abbrev pub invariant-loop-fault : goal.invariant-loop-fault
invariant-loop-fault l = first_of l.faults ≡ first_of (drop l.fault-index l.faults)
