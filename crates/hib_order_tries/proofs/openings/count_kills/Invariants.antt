use Rattle.std.proofs.Common.{◌≡◌, ◌≤◌, take}
use Rattle.hib_order_law.specs.Orders.{kills}
use Rattle.hib_order_tries.proofs.openings.count_kills.Given as goal

abbrev pub invariant-loop-place : goal.invariant-loop-place
invariant-loop-place l = (l.count ≡ kills (take l.place l.order)) × (l.count ≤ l.place)
