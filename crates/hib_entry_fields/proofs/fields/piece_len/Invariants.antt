use Rattle.std.proofs.Common.{◌≡◌, ◌+◌, ◌-◌, ◌≤◌, drop, length}
use Rattle.hib_entry_fields.specs.Fields.{piece_len}
use Rattle.hib_entry_fields.proofs.fields.piece_len.Given as goal

abbrev pub invariant-loop-len : goal.invariant-loop-len
invariant-loop-len l = record {
  sum : piece_len l.bytes ≡ l.len + piece_len (drop l.len l.bytes);
  fits : l.len ≤ length l.bytes;
}

abbrev pub decreases-loop-len : goal.decreases-loop-len
decreases-loop-len l = length l.bytes - l.len
