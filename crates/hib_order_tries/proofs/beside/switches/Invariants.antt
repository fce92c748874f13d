use Rattle.std.proofs.Common.{◌≡◌, ◌+◌, ℕ, drop, length}
use Rattle.hib_order_tries.specs.Tail.{IsTail}
use Rattle.hib_order_tries.proofs.beside.switches.Given as goal

abbrev pub invariant-loop-gone : goal.invariant-loop-gone
invariant-loop-gone l = (at : ℕ) → at + l.gone ≡ length l.order → IsTail (drop at l.order) l.tail.steps.items l.tail.first l.tail.switches
