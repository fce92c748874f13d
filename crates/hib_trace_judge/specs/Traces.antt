-- What is said of the lines of a trace.
use Rattle.std.specs.Prelude.{ℕ, List, Option, length}
use Rattle.std.specs.List.{AllZip}
use Rattle.hib_trace_lines.specs.Events.{EventText}
use Rattle.hib_trace_findings.specs.declared.kinds.Judgement.{Judgement}
use Rattle.hib_trace_calls.specs.Numbers.{AreApart, IsCall}
use Rattle.hib_trace_calls.specs.declared.calls.Call.{Call}
use Rattle.hib_trace_calls.specs.declared.calls.Texts.{Texts}
use Rattle.hib_trace_numbers.specs.Texts.{IsNamed, texts}
use Rattle.hib_trace_calls.specs.Rows.{no_row}
use Rattle.hib_trace_judge.specs.Lines.{IsCallJudged}
use Rattle.hib_trace_judge.specs.Told.{told_writes}
use Rattle.hib_trace_filed.specs.declared.limits.Limits.{Limits}

-- the judgements of the lines: the events with numbers for their texts, the same number exactly if the text is the same,
-- and what is told of each
pub record IsJudgedTrace (m : Limits) (es : List EventText) (js : List (Option Judgement)) : Type 0 where
  pub named : Texts
  pub calls : List Call
  pub none : ℕ
  pub apart : AreApart named
  pub is_none : IsNamed (texts named.rows) none no_row
  pub are : AllZip (IsCall named) es calls
  pub judged : AllZip (IsCallJudged m none calls (told_writes m.clock (length (texts named.keys)) calls)) calls js
