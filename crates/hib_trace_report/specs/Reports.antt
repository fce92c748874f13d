-- What a report says of a trace.
use Rattle.std.specs.Prelude.{◌≡◌, ℕ, List, Option}
use Rattle.std.specs.List.{list_any}
use Rattle.hib_lex.specs.Lines.{lines_of}
use Rattle.hib_trace_lines.specs.Events.{EventText}
use Rattle.hib_trace_lines.specs.Lines.{AreLines}
use Rattle.hib_trace_findings.specs.declared.kinds.Judgement.{Judgement}
use Rattle.hib_trace_judge.specs.Traces.{IsJudgedTrace}
use Rattle.hib_trace_filed.specs.declared.limits.Limits.{Limits}
use Rattle.hib_trace_report.specs.Asked.{masked, is_found}
use Rattle.hib_trace_report.specs.Lines.{report_text}
use Rattle.hib_trace_report.specs.declared.whole.Report.{Report}

-- the lines of a text are events, their answers are judged so, and the report tells the judgements of those that are
-- asked for
pub record IsReport (text : List ℕ) (m : Limits) (most : ℕ) (key : Option (List ℕ)) (r : Report) : Type 0 where
  pub events : List EventText
  pub judgements : List (Option Judgement)
  pub lines : AreLines (lines_of text) events
  pub judged : IsJudgedTrace m events judgements
  pub told : r.text.items ≡ report_text m most events (masked key events judgements)
  pub certain : r.certain ≡ list_any is_found (masked key events judgements)
