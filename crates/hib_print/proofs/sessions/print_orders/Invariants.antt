use Rattle.std.proofs.Common.{map, take}
use Rattle.hib_print.specs.Lines.{order_line}
use Rattle.hib_print.specs.Steps.{AddsLines}
use Rattle.hib_print.proofs.sessions.print_orders.Given as goal

abbrev pub invariant-loop-order : goal.invariant-loop-order
invariant-loop-order l = AddsLines l.fn.printer l.printer (map (λ x. order_line l.script x) (take l.order-index l.orders))
