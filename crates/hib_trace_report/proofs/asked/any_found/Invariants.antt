use Rattle.std.proofs.Common.{◌≡◌, false, take}
use Rattle.std.specs.List.{list_any}
use Rattle.hib_trace_report.specs.Asked.{is_found}
use Rattle.hib_trace_report.proofs.asked.any_found.Given as goal

abbrev pub invariant-loop-judgement : goal.invariant-loop-judgement
invariant-loop-judgement l = list_any is_found (take l.judgement-index l.judgements) ≡ false
