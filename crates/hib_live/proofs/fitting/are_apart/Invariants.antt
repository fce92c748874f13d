use Rattle.std.proofs.Common.{◌≡◌, ◌==◌, map, drop}
use Rattle.hib_base.specs.Apart.{are_apart_by}
use Rattle.hib_live.proofs.fitting.are_apart.Given as goal

-- those behind the place say it
abbrev pub invariant-loop-place : goal.invariant-loop-place
invariant-loop-place l = are_apart_by (λ c d. c == d) (map (λ x. x.0) (drop l.place l.sets)) ≡ are_apart_by (λ c d. c == d) (map (λ x. x.0) l.sets)
