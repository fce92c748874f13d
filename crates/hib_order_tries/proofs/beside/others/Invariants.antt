use Rattle.std.proofs.Common.{◌≡◌, ◌+◌, ℕ, drop, length, map}
use Rattle.hib_order_tries.specs.Left.{AreBeside}
use Rattle.hib_order_tries.specs.Tail.{IsTail}
use Rattle.hib_order_tries.proofs.beside.others.Given as goal

abbrev pub invariant-loop-gone : goal.invariant-loop-gone
invariant-loop-gone l =
    (at : ℕ) → at + l.gone ≡ length l.order →
    IsTail (drop at l.order) l.tail.steps.items l.tail.first l.tail.switches
    × AreBeside l.may_kill l.level at l.order l.turns (map (λ v. v.items) l.found.there.items) l.found.beyond
