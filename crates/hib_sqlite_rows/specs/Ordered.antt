-- That told tables are in order, for the law of the trait.
use Rattle.std.specs.Prelude.{◌≡◌, true, List, [], ◌∷◌, refl}
use Rattle.sqlite_value.specs.Order.{Row as SqlRow}
use Rattle.hib_base.specs.Tables.{in_order}
use Rattle.hib_outside.proofs.Orders.{in_order_with_row}
use Rattle.hib_sqlite_rows.specs.Stored.{key_in, row_in, tables_of}

pub tables_in_order : (rows : List SqlRow) → in_order (tables_of rows) ≡ true
tables_in_order [] = refl
tables_in_order (r ∷ rs) = in_order_with_row (tables_of rs) (key_in r) (row_in r) (tables_in_order rs)
