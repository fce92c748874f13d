use Rattle.std.proofs.Common.{◌≡◌, ◌+◌, vec_len, vec_capacity}
use Rattle.hib_outside.specs.Parted.{joined}
use Rattle.hib_outside.proofs.parted.join.Given as goal

abbrev pub invariant-join : goal.invariant-join
invariant-join l = record {
  rows : joined l.front.items l.back.items ≡ joined l.fn.front.items l.fn.back.items;
  len : vec_len l.front + vec_len l.back ≡ vec_len l.fn.front + vec_len l.fn.back;
  front_capacity : vec_capacity l.front ≡ vec_capacity l.fn.front;
}

abbrev pub decreases-join : goal.decreases-join
decreases-join l = vec_len l.back
