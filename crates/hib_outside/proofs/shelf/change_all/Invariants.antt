use Rattle.std.proofs.Common.{◌≡◌, ◌+◌, ◌≤◌, true, length, vec_len, vec_capacity}
use Rattle.hib_base.specs.Tables.{after_changes, in_order}
use Rattle.hib_outside.proofs.shelf.change_all.Given as goal

abbrev pub invariant-loop-change : goal.invariant-loop-change
invariant-loop-change l = record {
  done : l.rows.items ≡ after_changes l.yielded l.fn.rows.items;
  ordered : in_order l.rows.items ≡ true;
  room : vec_len l.rows + length l.fn.changes.items ≤ vec_capacity l.rows + length l.yielded;
}
