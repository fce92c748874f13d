use Rattle.std.proofs.Common.{◌≡◌, ◌+◌, ◌≤◌, true, length, vec_len, vec_capacity}
use Rattle.hib_base.specs.Tables.{with_absent, in_order}
use Rattle.hib_outside.proofs.shelf.add_all.Given as goal

abbrev pub invariant-loop-key : goal.invariant-loop-key
invariant-loop-key l = record {
  done : l.rows.items ≡ with_absent l.fn.rows.items l.yielded;
  ordered : in_order l.rows.items ≡ true;
  room : vec_len l.rows + length l.fn.more.items ≤ vec_capacity l.rows + length l.yielded;
}
