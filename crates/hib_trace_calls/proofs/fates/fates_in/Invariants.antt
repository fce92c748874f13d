use Rattle.std.proofs.Common.{◌≡◌, take, vec_len}
use Rattle.hib_trace_calls.specs.Ends.{IsTable}
use Rattle.hib_trace_calls.proofs.fates.fates_in.Given as goal

abbrev pub invariant-loop-call : goal.invariant-loop-call
invariant-loop-call l = record {
  count : vec_len l.table ≡ l.count;
  table : IsTable (take l.call-index l.calls) l.table.items;
}
