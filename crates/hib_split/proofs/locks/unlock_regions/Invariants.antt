use Rattle.std.proofs.Common.{◌≡◌, ◌≤◌, ◌+◌, ◌++◌, map, reverse}
use Rattle.std.specs.Vec.{vec_len, vec_capacity}
use Rattle.hib_split.proofs.locks.unlock_regions.Given as goal

abbrev pub invariant-rest : goal.invariant-rest
invariant-rest g l = record {
  entities : map (λ r. r.entity) l.regions.items ++ map (λ k. k.entity) (reverse l.rest.items) ≡ map (λ k. k.entity) l.fn.locks.items;
  room : vec_len l.regions + vec_len l.rest ≤ vec_capacity l.regions;
  len : vec_len l.regions + vec_len l.rest ≡ vec_len l.fn.regions + vec_len l.fn.locks;
}

abbrev pub decreases-rest : goal.decreases-rest
decreases-rest g l = vec_len l.rest
