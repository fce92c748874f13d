use Rattle.std.proofs.Common.{◌≡◌, ◌≤◌, take}
use Rattle.std.specs.Prelude.{count_by}
use Rattle.hib_trace_report.specs.Lines.{is_told}
use Rattle.hib_trace_report.proofs.counts.count_kind.Given as goal

abbrev pub invariant-loop-judgement : goal.invariant-loop-judgement
invariant-loop-judgement l = record {
  counts : l.count ≡ count_by (is_told l.kind) (take l.judgement-index l.judgements);
  bound : l.count ≤ l.judgement-index;
}
