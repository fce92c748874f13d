use Rattle.std.proofs.Common.{map, take, string_bytes}
use Rattle.std.specs.List.{AllZip}
use Rattle.hib_trace_numbers.specs.Texts.{IsNamed, texts}
use Rattle.hib_trace_calls.specs.Numbers.{Grows}
use Rattle.hib_trace_calls.proofs.numbers.number_each.Given as goal

abbrev pub invariant-loop-text : goal.invariant-loop-text
invariant-loop-text l = record {
  named : AllZip (λ x n. IsNamed (texts l.names) n x) (map string_bytes (take l.text-index l.all)) l.numbers.items;
  grows : Grows (texts l.initial.names) (texts l.names);
}
