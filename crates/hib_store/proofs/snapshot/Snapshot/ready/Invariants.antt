use Rattle.std.proofs.Common.{◌≡◌}
use Rattle.hib_store.proofs.snapshot.Snapshot.ready.Given as goal

-- the rows stay
abbrev pub invariant-loop-query : goal.invariant-loop-query
invariant-loop-query l = record {
  rows : l.self-inside.index ≡ l.initial.self-inside.index;
  entities : l.self-inside.entities ≡ l.initial.self-inside.entities;
}
