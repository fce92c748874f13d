use Rattle.std.proofs.Common.{◌≡◌, ◌++◌, take}
use Rattle.hib_base.specs.Tables.{Tables}
use Rattle.hib_sqlite_rows.specs.Told.{rows_in}
use Rattle.hib_sqlite_rows.specs.Shown.{ShowsEntity}
use Rattle.hib_sqlite_rows.proofs.reads.add_entries.Given as goal

abbrev pub invariant-loop-row : goal.invariant-loop-row
invariant-loop-row l = (t : Tables) → ShowsEntity l.rows t l.entity → l.list.items ≡ l.fn.list.items ++ take l.row-index (rows_in l.entity t)
