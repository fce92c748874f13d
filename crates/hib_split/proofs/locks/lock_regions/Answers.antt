use Rattle.std.proofs.Common.{map, arith}
use Rattle.hib_split.proofs.Moved.{moved}
use Rattle.hib_split.proofs.locks.lock_regions.Goals as goal

pub rest-preserved : goal.rest-preserved
rest-preserved g c = record {
  entities = moved (λ r. r.entity) (λ k. k.entity) c.rest.rest.items c.pop.new.self.items c.in-Some.region c.rest.locks.items c.push_reserved.new.self.items _ (map (λ r. r.entity) c.args.regions.items) c.in-Some.ensures.items
      c.push_reserved.ensures.items c.entity.ensures c.rest.invariant.entities;
  room = omega (arith, c.in-Some.ensures.cases, c.push_reserved.ensures.len, c.push_reserved.ensures.capacity, c.rest.invariant.room);
  len = omega (arith, c.in-Some.ensures.cases, c.push_reserved.ensures.len, c.rest.invariant.len);
}
