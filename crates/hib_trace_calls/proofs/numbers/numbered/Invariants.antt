use Rattle.std.proofs.Common.{take}
use Rattle.std.specs.List.{AllZip}
use Rattle.hib_trace_numbers.specs.Texts.{IsNamed, texts}
use Rattle.hib_trace_calls.specs.Numbers.{AreApart, IsCall}
use Rattle.hib_trace_calls.specs.Rows.{no_row}
use Rattle.hib_trace_calls.proofs.numbers.numbered.Given as goal

abbrev pub invariant-loop-event : goal.invariant-loop-event
invariant-loop-event l = record {
  calls : AllZip (IsCall l.texts) (take l.event-index l.events) l.calls.items;
  none : IsNamed (texts l.texts.rows) l.none no_row;
  apart : AreApart l.texts;
}
