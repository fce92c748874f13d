use Rattle.std.proofs.Common.{◌≡◌, ℕ, nat_lt}
use Rattle.hib_outside.specs.Keeps.{is_listed}
use Rattle.hib_store.proofs.queries.entities_below.Given as goal

-- the entities so far
abbrev pub invariant-loop-entity : goal.invariant-loop-entity
invariant-loop-entity l = (n : ℕ) → is_listed n l.all.items ≡ nat_lt n l.entity
