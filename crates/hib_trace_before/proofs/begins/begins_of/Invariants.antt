use Rattle.std.proofs.Common.{◌≡◌, take, vec_len}
use Rattle.hib_trace_before.specs.Tables.{AreBegins}
use Rattle.hib_trace_before.proofs.begins.begins_of.Given as goal

abbrev pub invariant-loop-write : goal.invariant-loop-write
invariant-loop-write l = record {
  count : vec_len l.begins ≡ l.count;
  begins : AreBegins (take l.write-index l.writes) l.begins.items;
}
