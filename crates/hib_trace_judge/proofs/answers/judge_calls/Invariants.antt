use Rattle.std.proofs.Common.{take}
use Rattle.std.specs.List.{AllZip}
use Rattle.hib_trace_judge.specs.Told.{told_writes}
use Rattle.hib_trace_judge.specs.Lines.{IsCallJudged}
use Rattle.hib_trace_judge.proofs.answers.judge_calls.Given as goal

abbrev pub invariant-loop-call : goal.invariant-loop-call
invariant-loop-call l =
    AllZip (IsCallJudged l.limits l.counts.none l.calls (told_writes l.limits.clock l.counts.keys l.calls)) (take l.call-index l.calls) l.judgements.items
