use Rattle.std.proofs.Common.{map, take}
use Rattle.hib_order_tries.specs.Left.{AreLeft}
use Rattle.hib_order_tries.proofs.beside.Beginnings.add_at.Given as goal

abbrev pub invariant-loop-place : goal.invariant-loop-place
invariant-loop-place l =
    AreLeft l.level l.at l.order (take l.place l.these) (map (λ v. v.items) l.fn.self.there.items) l.fn.self.beyond
    (map (λ v. v.items) l.self.there.items) l.self.beyond
