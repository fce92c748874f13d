use Rattle.std.proofs.Common.{◌≡◌, ◌==◌, map, drop}
use Rattle.std.specs.List.{list_any}
use Rattle.hib_live.proofs.fitting.has_column.Given as goal

-- it is none of those so far
abbrev pub invariant-loop-place : goal.invariant-loop-place
invariant-loop-place l = list_any (λ d. d == l.column) (map (λ x. x.0) (drop l.place l.sets)) ≡ list_any (λ d. d == l.column) (map (λ x. x.0) l.sets)
