use Rattle.std.proofs.Common.{◌≡◌, drop}
use Rattle.hib_flat.specs.Columns.{with_columns}
use Rattle.hib_flat.proofs.columns.add_columns.Given as goal

abbrev pub invariant-loop-column : goal.invariant-loop-column
invariant-loop-column l = with_columns l.names.items (drop l.column-index l.columns) ≡ with_columns l.fn.names.items l.columns
