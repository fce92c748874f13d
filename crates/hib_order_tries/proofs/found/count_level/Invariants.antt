use Rattle.std.proofs.Common.{◌≡◌, ℕ, length, slice_index_or}
use Rattle.hib_order_tries.proofs.found.count_level.Given as goal

abbrev pub invariant-loop-place : goal.invariant-loop-place
invariant-loop-place l = (l._place ≡ length l.levels.items) × ((k : ℕ) → slice_index_or l.levels.items k 0 ≡ slice_index_or l.fn.levels.items k 0)
