use Rattle.std.proofs.Common.{take}
use Rattle.hib_trace_filed.specs.Orders.{AreLives}
use Rattle.hib_trace_filed.proofs.orders.all_lives.Given as goal

abbrev pub invariant-loop-order : goal.invariant-loop-order
invariant-loop-order l = AreLives l.none (take l.order-index l.orders) l.lives.items
