use Rattle.std.proofs.Common.{◌≡◌, ◌+◌, ◌++◌, drop}
use Rattle.hib_trace_report.specs.Lines.{findings_text}
use Rattle.hib_trace_report.proofs.lines.put_findings.Given as goal

abbrev pub invariant-loop-at : goal.invariant-loop-at
invariant-loop-at l =
    l.out.items ++ findings_text l.left (l.at + 1) (drop l.at l.events) (drop l.at l.judgements) ≡ l.initial.out.items ++ findings_text l.most 1 l.events l.judgements
