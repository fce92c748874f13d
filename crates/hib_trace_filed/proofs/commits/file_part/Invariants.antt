use Rattle.std.proofs.Common.{◌≡◌, take, vec_len}
use Rattle.hib_trace_filed.specs.Keys.{IsFiled, filed_as}
use Rattle.hib_trace_filed.proofs.commits.file_part.Given as goal

abbrev pub invariant-loop-write : goal.invariant-loop-write
invariant-loop-write l = record {
  count : vec_len l.files ≡ l.count;
  filed : IsFiled l.by (filed_as l.part l.limits) (take l.write-index l.writes) l.files.items;
}
