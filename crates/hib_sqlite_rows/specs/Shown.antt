-- What is bound to a statement, and what an answer shows.
use Rattle.std.specs.Prelude.{◌≡◌, ◌<◌, ◌^◌, ℕ, pos, [], ◌∷◌, List, Some, None, Option, map, All, IfSome}
use Rattle.sqlite.specs.declared.types.Value.TheVariants.{Int, Blob as Bytes}
use Rattle.sqlite.specs.Values.{or_null}
use Rattle.sqlite_value.specs.Order.{Row as SqlRow}
use Rattle.hib_base.specs.Tables.{Tables, row_at}
use Rattle.hib_sqlite_rows.specs.Types.{Key, Row}
use Rattle.hib_sqlite_rows.specs.Body.{packed, IsPackable}
use Rattle.hib_sqlite_rows.specs.Told.{rows_in}

-- a version, or NULL, and a body
abbrev pub shown_as : Option ℕ → List ℕ → SqlRow
shown_as version body = or_null (λ v. Int (pos v)) version ∷ Bytes body ∷ []

abbrev pub bound_key : Key → SqlRow
bound_key k = Int (pos k.entity) ∷ Int (pos k.id) ∷ []

abbrev pub bound_row : Key → Option ℕ → List ℕ → SqlRow
bound_row k version body = Int (pos k.entity) ∷ Int (pos k.id) ∷ shown_as version body

-- a row as it is shown, and with its number
abbrev pub shown : Row → SqlRow
shown r = shown_as r.version (packed r.cells)

abbrev pub shown_found : Option Row → List SqlRow
shown_found None = []
shown_found (Some r) = shown r ∷ []

abbrev pub shown_entry : Key × Row → SqlRow
shown_entry e = Int (pos e.0.id) ∷ shown e.1

-- an answer shows the row of a key, if it has one
pub record ShowsKey (rows : List SqlRow) (t : Tables) (k : Key) : Type 0 where
  pub rows_are : rows ≡ shown_found (row_at t k)
  pub packable : IfSome (row_at t k) (λ r. IsPackable r.cells)

-- an answer shows the rows of an entity
pub record ShowsEntity (rows : List SqlRow) (t : Tables) (entity : ℕ) : Type 0 where
  pub rows_are : rows ≡ map shown_entry (rows_in entity t)
  pub packable : All (λ e. IsPackable e.1.cells) (rows_in entity t)

-- a key and a row that SQL can keep: numbers within its ranges, and cells that have a body
pub record IsInRange (k : Key) (r : Row) : Type 0 where
  pub entity : k.entity < 2 ^ 16
  pub id : k.id < 2 ^ 63
  pub version : IfSome r.version (λ v. v < 2 ^ 32)
  pub cells : IsPackable r.cells
