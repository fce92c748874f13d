use Rattle.std.proofs.Common.{◌≡◌, take}
use Rattle.hib_order_law.specs.Orders.{steps_in}
use Rattle.hib_order_plays.proofs.entries.order_of.Given as goal

abbrev pub invariant-loop-entry : goal.invariant-loop-entry
invariant-loop-entry l = l.order.items ≡ steps_in (take l.entry-index l.entries)
