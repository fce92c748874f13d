use Rattle.std.proofs.Common.{◌≡◌, take}
use Rattle.hib_sqlite_rows.proofs.reads.distinct.Given as goal

abbrev pub invariant-loop-entity : goal.invariant-loop-entity
invariant-loop-entity l = l.numbers.items ≡ take l.entity-index l.entities
