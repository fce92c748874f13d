use Rattle.std.specs.List.{AllZip}
use Rattle.hib_trace_filed.specs.Orders.{IsOrderOf}
use Rattle.hib_trace_filed.proofs.orders.orders_of.Given as goal

abbrev pub invariant-loop-commits : goal.invariant-loop-commits
invariant-loop-commits l = AllZip (λ f o. IsOrderOf f.items o) l.yielded l.orders.items
