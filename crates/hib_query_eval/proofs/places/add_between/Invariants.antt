use Rattle.std.proofs.Common.{◌≡◌, ◌++◌, map}
use Rattle.std.specs.List.{filter}
use Rattle.hib_query_eval.specs.Spans.{is_within}
use Rattle.hib_query_eval.proofs.places.add_between.Given as goal

-- what is added, and the places that are left
abbrev pub invariant-loop-place : goal.invariant-loop-place
invariant-loop-place l =
    l.ids.items ++ map (λ p. p.id) l.place-iterator
    ≡ l.fn.ids.items ++ map (λ p. p.id) (filter (is_within l.fn.from l.fn.to) l.fn.places.keys)
