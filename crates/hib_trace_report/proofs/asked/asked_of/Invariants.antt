use Rattle.std.proofs.Common.{◌≡◌, ◌++◌, drop, string_bytes}
use Rattle.std.specs.Prelude.{option_map}
use Rattle.hib_trace_report.specs.Asked.{masked}
use Rattle.hib_trace_report.proofs.asked.asked_of.Given as goal

abbrev pub invariant-loop-at : goal.invariant-loop-at
invariant-loop-at l =
    l.asked.items ++ masked (option_map string_bytes l.key) (drop l.at l.events) (drop l.at l.judgements)
    ≡ masked (option_map string_bytes l.key) l.events l.judgements
