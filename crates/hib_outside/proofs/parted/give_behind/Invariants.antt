use Rattle.std.proofs.Common.{◌≡◌, ◌+◌, false, vec_len, vec_capacity}
use Rattle.hib_outside.specs.Parted.{joined, ends_before}
use Rattle.hib_outside.proofs.parted.give_behind.Given as goal

abbrev pub invariant-give : goal.invariant-give
invariant-give l = record {
  rows : joined l.front.items l.back.items ≡ joined l.fn.front.items l.fn.back.items;
  next : ends_before l.back.items l.key ≡ false;
  len : vec_len l.front + vec_len l.back ≡ vec_len l.fn.front + vec_len l.fn.back;
  front_capacity : vec_capacity l.front ≡ vec_capacity l.fn.front;
  back_capacity : vec_capacity l.back ≡ vec_capacity l.fn.back;
}

abbrev pub decreases-give : goal.decreases-give
decreases-give l = vec_len l.front
