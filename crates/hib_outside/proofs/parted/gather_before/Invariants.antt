use Rattle.std.proofs.Common.{◌≡◌, ◌+◌, vec_len, vec_capacity}
use Rattle.hib_outside.specs.Parted.{joined}
use Rattle.hib_outside.proofs.parted.gather_before.Given as goal

abbrev pub invariant-gather : goal.invariant-gather
invariant-gather l = record {
  rows : joined l.front.items l.back.items ≡ joined l.fn.front.items l.fn.back.items;
  len : vec_len l.front + vec_len l.back ≡ vec_len l.fn.front + vec_len l.fn.back;
  front_capacity : vec_capacity l.front ≡ vec_capacity l.fn.front;
  back_capacity : vec_capacity l.back ≡ vec_capacity l.fn.back;
}

abbrev pub decreases-gather : goal.decreases-gather
decreases-gather l = vec_len l.back
