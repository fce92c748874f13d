use Rattle.std.proofs.Common.{◌≡◌, ◌++◌, take, map}
use Rattle.hib_trace_calls.specs.Writes.{made_write}
use Rattle.hib_trace_calls.proofs.writes.put_made.Given as goal

abbrev pub invariant-loop-made : goal.invariant-loop-made
invariant-loop-made l = l.out.items ≡ l.initial.out.items ++ map (made_write l.call) (take l.made-index l.call.made.items)
