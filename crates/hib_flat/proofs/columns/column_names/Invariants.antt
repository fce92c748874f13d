use Rattle.std.proofs.Common.{◌≡◌, drop}
use Rattle.hib_flat.specs.Columns.{with_entities, columns}
use Rattle.hib_flat.proofs.columns.column_names.Given as goal

abbrev pub invariant-loop-entity : goal.invariant-loop-entity
invariant-loop-entity l = with_entities l.names.items (drop l.entity-index l.script.mapping) ≡ columns l.script
