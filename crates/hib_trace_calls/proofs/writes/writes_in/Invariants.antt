use Rattle.std.proofs.Common.{◌≡◌, take}
use Rattle.std.specs.Prelude.{flat_map}
use Rattle.hib_trace_calls.specs.Writes.{fate_of, writes_with}
use Rattle.hib_trace_calls.proofs.writes.writes_in.Given as goal

abbrev pub invariant-loop-call : goal.invariant-loop-call
invariant-loop-call l = l.writes.items ≡ flat_map (λ c. writes_with (fate_of l.calls c.transaction) c) (take l.call-index l.calls)
