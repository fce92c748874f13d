use Rattle.std.proofs.Common.{◌≡◌, map}
use Rattle.hib_parts.specs.Run.{part_lists, GoesOn}
use Rattle.hib_parts.proofs.parts.Parts.finish.Given as goal

abbrev pub invariant-steps : goal.invariant-steps
invariant-steps g l = record {
  going : l.self.store.refused ≡ l.fn.self.store.refused;
  entities : map (λ r. r.entity) l.self.regions.items ≡ map (λ r. r.entity) l.fn.self.regions.items;
  number : l.worker.number ≡ l.fn.worker.number;
  run : GoesOn (part_lists l.fn.self) l.fn.worker (part_lists l.self) l.worker;
}

abbrev pub decreases-steps : goal.decreases-steps
decreases-steps g l = l.worker.left
