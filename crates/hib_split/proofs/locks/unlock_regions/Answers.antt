use Rattle.std.proofs.Common.{map, sym, ◌∙◌, arith}
use Rattle.hib_split.proofs.Moved.{moved}
use Rattle.hib_split.proofs.locks.unlock_regions.Goals as goal

pub rest-preserved : goal.rest-preserved
rest-preserved g c = record {
  entities = moved (λ k. k.entity) (λ r. r.entity) c.rest.rest.items c.pop.new.self.items c.in-Some.locked c.rest.regions.items c.push_reserved.new.self.items _ (map (λ k. k.entity) c.args.locks.items) c.in-Some.ensures.items
      c.push_reserved.ensures.items (sym c.entity.ensures ∙ c.in_ok-compared.ensures) c.rest.invariant.entities;
  room = omega (arith, c.in-Some.ensures.cases, c.push_reserved.ensures.len, c.push_reserved.ensures.capacity, c.rest.invariant.room);
  len = omega (arith, c.in-Some.ensures.cases, c.push_reserved.ensures.len, c.rest.invariant.len);
}
