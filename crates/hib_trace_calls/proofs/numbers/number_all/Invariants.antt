use Rattle.std.proofs.Common.{map, take}
use Rattle.std.specs.List.{AllZip}
use Rattle.hib_trace_lines.specs.Rows.{row_text}
use Rattle.hib_trace_calls.specs.Numbers.{AllGrow, IsMade}
use Rattle.hib_trace_calls.proofs.numbers.number_all.Given as goal

abbrev pub invariant-loop-write : goal.invariant-loop-write
invariant-loop-write l = record {
  made : AllZip (IsMade l.texts) (map row_text (take l.write-index l.writes)) l.made.items;
  grows : AllGrow l.initial.texts l.texts;
}
