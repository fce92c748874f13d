use Rattle.std.specs.Prelude.{not, ◌==◌}
use Rattle.std.specs.List.{filter}
use Rattle.std.proofs.Common.{◌≡◌, take}
use Rattle.hib_order_law.specs.Orders.{whose}
use Rattle.hib_order_tries.proofs.openings.without.Given as goal

abbrev pub invariant-loop-place : goal.invariant-loop-place
invariant-loop-place l = l.others.items ≡ filter (λ t. not (whose t == l.fn.session)) (take l.place l.steps)
