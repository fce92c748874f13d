-- The columns that the words of a query name, and what they may be compared with.
use Rattle.std.specs.Prelude.{ℕ, Bool, true, false, not, ◌||◌, List, [], slice_get, Option, Some, None, option_and_then}
pub use Rattle.hib_base.specs.Fits.{columns_in, entity_columns, is_order, is_bool}
use Rattle.hib_base.specs.declared.rows.Cell.{Cell}
use Rattle.hib_base.specs.declared.scripts.ColumnDef.{ColumnDef}
use Rattle.hib_base.specs.declared.scripts.ColumnType.{ColumnType}
use Rattle.hib_base.specs.declared.scripts.EntityDef.{EntityDef}
use Rattle.hib_base.specs.declared.scripts.Op.{Op}
use Rattle.hib_base.specs.declared.scripts.Path.{Path}
use Rattle.hib_lex.specs.declared.lexer.Token.{Token}
use Rattle.hib_mapping.specs.Cells.{has_type}
use Rattle.hib_mapping.specs.Parts.{column_at}
use Rattle.hib_columns.specs.declared.columns.Column.{Column}
use Rattle.hib_columns.specs.declared.columns.Found.{Found}

-- ---- columns
abbrev pub columns_of : List EntityDef → Option ℕ → List ColumnDef
columns_of m None = []
columns_of m (Some n) = entity_columns m n

abbrev pub found_at : ℕ → Option ColumnDef → Option Found
found_at c None = None
found_at c (Some d) = Some (record { place = c; kind = d.kind })

abbrev pub at_place : List ColumnDef → ℕ → Option Found
at_place ds c = found_at c (slice_get ds c)

-- the column of a name
abbrev pub plain_column : List ColumnDef → List ℕ → Option Found
plain_column ds w = option_and_then (λ c. at_place ds c) (column_at ds w)

abbrev pub place_or_first : Option Found → ℕ
place_or_first None = 0
place_or_first (Some d) = d.place

abbrev pub own : Option Found → Option Column
own None = None
own (Some d) = Some (record { path = record { column = d.place; target = None }; kind = d.kind })

abbrev pub led_to : ℕ → ℕ → Option Found → Option Column
led_to c n None = None
led_to c n (Some d) =
    Some (record { path = record { column = c; target = Some (record { entity = n; column = d.place }) }; kind = d.kind })

abbrev pub through_type : List EntityDef → ℕ → ColumnType → List ℕ → Option Column
through_type m c (ColumnType.Ref n) w = led_to c n (plain_column (entity_columns m n) w)
through_type m c _ w = None

-- by a reference, a column of its target
abbrev pub through : List EntityDef → Option Found → List ℕ → Option Column
through m None w = None
through m (Some r) w = through_type m r.place r.kind w

-- the column that a word or a path names
abbrev pub column_of : List EntityDef → List ColumnDef → Token → Option Column
column_of m ds (Token.Word w) = own (plain_column ds w)
column_of m ds (Token.Path v w) = through m (plain_column ds v) w
column_of m ds _ = None

abbrev pub is_path : Token → Bool
is_path (Token.Word w) = true
is_path (Token.Path v w) = true
is_path _ = false

abbrev pub path_or_first : Option Column → Path
path_or_first None = record { column = 0; target = None }
path_or_first (Some c) = c.path

-- ---- cells
abbrev pub is_typed : Option Column → Cell → Bool
is_typed None c = true
is_typed (Some d) c = has_type d.kind c

-- bools have no order
abbrev pub is_comparable : Op → Option Column → Bool
is_comparable op None = true
is_comparable op (Some d) = not (is_order op) || not (is_bool d.kind)
