use Rattle.std.proofs.Common.{◌≡◌, take}
use Rattle.hib_order_law.specs.Orders.{turns_in}
use Rattle.hib_order_plays.proofs.entries.turns_of.Given as goal

abbrev pub invariant-loop-entry : goal.invariant-loop-entry
invariant-loop-entry l = l.turns.items ≡ turns_in (take l.entry-index l.entries)
