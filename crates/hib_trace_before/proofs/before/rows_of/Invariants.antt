use Rattle.std.proofs.Common.{◌≡◌, take, length, vec_len}
use Rattle.hib_trace_before.specs.Tables.{AreRows}
use Rattle.hib_trace_before.proofs.before.rows_of.Given as goal

abbrev pub invariant-loop-call : goal.invariant-loop-call
invariant-loop-call l = record {
  count : vec_len l.rows ≡ length l.begins;
  rows : AreRows (take l.call-index l.calls) l.begins l.clock l.rows.items;
}
