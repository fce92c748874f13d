use Rattle.std.proofs.Common.{◌≡◌, ◌≤◌, ◌+◌, ◌++◌, map, reverse}
use Rattle.std.specs.Vec.{vec_len, vec_capacity}
use Rattle.hib_split.proofs.locks.lock_regions.Given as goal

abbrev pub invariant-rest : goal.invariant-rest
invariant-rest g l = record {
  entities : map (λ k. k.entity) l.locks.items ++ map (λ r. r.entity) (reverse l.rest.items) ≡ map (λ r. r.entity) l.fn.regions.items;
  room : vec_len l.locks + vec_len l.rest ≤ vec_capacity l.locks;
  len : vec_len l.locks + vec_len l.rest ≡ vec_len l.fn.locks + vec_len l.fn.regions;
}

abbrev pub decreases-rest : goal.decreases-rest
decreases-rest g l = vec_len l.rest
