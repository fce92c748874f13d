use Rattle.std.proofs.Common.{◌≡◌, ◌+◌, ◌≤◌, true, length, vec_len, vec_capacity}
use Rattle.hib_base.specs.Tables.{after_changes, in_order}
use Rattle.hib_outside.specs.Parted.{joined}
use Rattle.hib_outside.proofs.shelf.sweep.Given as goal

abbrev pub invariant-loop-change : goal.invariant-loop-change
invariant-loop-change l = record {
  done : joined l.rows.items l.back.items ≡ after_changes l.yielded l.fn.rows.items;
  ordered : in_order (joined l.rows.items l.back.items) ≡ true;
  room : vec_len l.rows + vec_len l.back + length l.fn.changes.items ≤ vec_capacity l.rows + length l.yielded;
  back_room : vec_len l.rows + vec_len l.back + length l.fn.changes.items ≤ vec_capacity l.back + length l.yielded;
}
