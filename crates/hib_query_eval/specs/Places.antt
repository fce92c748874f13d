-- Where the cells of rows stand in an index.
use Rattle.std.specs.Prelude.{◌≡◌, ℕ, ◌<◌, ◌^◌, Bool, true, false, ◌&&◌, ◌==◌, List, Some, None, Option, slice_get}
use Rattle.std.specs.Option.{option_map_or}
use Rattle.std.specs.List.{list_any}
use Rattle.hib_journal.specs.Types.{Row, Cell}
use Rattle.hib_base.specs.Tables.{Tables, row_at}
use Rattle.hib_journal.specs.Room.{key}
use Rattle.hib_journal.specs.Query.{same_cell}
use Rattle.hib_query_eval.specs.declared.columns.Column.{Column}
use Rattle.hib_query_eval.specs.declared.places.Place.{Place}
use Rattle.hib_query_eval.specs.declared.places.Value.{Value}

-- the cell that a value is; a bound is none
abbrev pub cell_in : Value → Option Cell
cell_in Value.Least = None
cell_in (Value.Int n) = Some (Cell.Int n)
cell_in (Value.Text t) = Some (Cell.Text t.items)
cell_in (Value.Bool b) = Some (Cell.Bool b)
cell_in Value.Greatest = None

-- the place of a cell of the row with an identifier
abbrev pub is_place : ℕ → Cell → Place → Bool
is_place id cell p = option_map_or (same_cell cell) (cell_in p.value) false && (id == p.id)

abbrev pub has_place : List Place → ℕ → Cell → Bool
has_place ps id cell = list_any (is_place id cell) ps

-- whether a row has a cell in a column
abbrev pub has_cell : Option Row → ℕ → Cell → Bool
has_cell None column cell = false
has_cell (Some r) column cell = option_map_or (same_cell cell) (slice_get r.cells column) false

-- the places are those of the cells of an entity's rows in a column, and no others; identifiers have 64 bits
pub record IsIndexOf (entity column : ℕ) (ps : List Place) (t : Tables) : Type 0 where
  pub cells : (id : ℕ) (cell : Cell) → has_place ps id cell ≡ has_cell (row_at t (key entity id)) column cell
  pub fit : (id : ℕ) (cell : Cell) → has_place ps id cell ≡ true → id < 2 ^ 64

-- each column has the places of its cells
abbrev pub AreIndexes : List Column → Tables → Type 0
AreIndexes cs t = (n : ℕ) (c : Column) → slice_get cs n ≡ Some c → IsIndexOf c.entity c.column c.places.keys t

abbrev pub has_id : ℕ → List ℕ → Bool
has_id id ids = list_any (λ n. n == id) ids
