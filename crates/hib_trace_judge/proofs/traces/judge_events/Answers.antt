use Rattle.std.proofs.Common.{ℕ, subst}
use Rattle.std.specs.Prelude.{List}
use Rattle.std.specs.List.{AllZip}
use Rattle.hib_trace_judge.specs.Told.{told_writes}
use Rattle.hib_trace_calls.specs.declared.calls.Call.{Call}
use Rattle.hib_trace_judge.specs.Lines.{IsCallJudged}
use Rattle.hib_trace_judge.proofs.traces.judge_events.Goals as goal

pub returns : goal.returns
returns c = record {
  named = c.in_ok-trace.trace.texts;
  calls = c.in_ok-trace.trace.calls.items;
  none = c.in_ok-trace.trace.none;
  apart = c.in_ok-trace.ensures.apart;
  is_none = c.in_ok-trace.ensures.none;
  are = c.in_ok-trace.ensures.calls;
  judged =
      subst (λ (n : ℕ). AllZip (IsCallJudged c.args.limits.now c.in_ok-trace.trace.none c.in_ok-trace.trace.calls.items
      (told_writes c.args.limits.now.clock n c.in_ok-trace.trace.calls.items)) c.in_ok-trace.trace.calls.items c.in_ok-judgements.judgements.items)
      c.len.ensures
      (subst (λ (cs : List Call). AllZip (IsCallJudged c.args.limits.now c.in_ok-trace.trace.none cs (told_writes c.args.limits.now.clock c.len.result cs)) cs
      c.in_ok-judgements.judgements.items)
      c.deref.ensures.value c.in_ok-judgements.ensures);
}
