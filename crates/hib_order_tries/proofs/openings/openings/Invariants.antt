use Rattle.std.specs.Prelude.{slice_index_or}
use Rattle.std.proofs.Common.{◌≡◌, ◌+◌, ◌≤◌, ℕ, true, [], length, map}
use Rattle.hib_order_tries.specs.Left.{AreOpen}
use Rattle.hib_order_tries.proofs.openings.openings.Given as goal

abbrev pub invariant-loop-place : goal.invariant-loop-place
invariant-loop-place l =
    (length l.places.items ≡ l.place + 1)
    × ((at : ℕ) → at ≤ l.place → AreOpen true l.order l.turns at (slice_index_or (map (λ v. v.items) l.places.items) at []))
