use Rattle.std.proofs.Common.{◌≡◌, ◌++◌, take}
use Rattle.hib_trace_report.specs.Lines.{plain}
use Rattle.hib_trace_report.proofs.lines.put_plain.Given as goal

abbrev pub invariant-loop-byte : goal.invariant-loop-byte
invariant-loop-byte l = l.out.items ≡ l.initial.out.items ++ plain (take l.byte-index l.text)
