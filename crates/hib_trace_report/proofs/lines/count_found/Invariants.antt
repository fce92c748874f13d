use Rattle.std.proofs.Common.{◌≡◌, ◌≤◌, take}
use Rattle.std.specs.Prelude.{count_by}
use Rattle.hib_trace_report.specs.Asked.{is_found}
use Rattle.hib_trace_report.proofs.lines.count_found.Given as goal

abbrev pub invariant-loop-judgement : goal.invariant-loop-judgement
invariant-loop-judgement l = record {
  counts : l.count ≡ count_by is_found (take l.judgement-index l.judgements);
  bound : l.count ≤ l.judgement-index;
}
