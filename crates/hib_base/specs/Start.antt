-- The tables at the start: the rows that were kept get the columns that were added later, and a script's rows stand beside them.
use Rattle.std.specs.Prelude.{Bool, if◌then◌else◌, ◌&&◌, nat_lt, List, [], ◌∷◌, ◌++◌, length, drop, map, Option, Some, None}
use Rattle.std.specs.List.{list_all}
use Rattle.hib_base.specs.Types.{Key, Cell, Row, ColumnDef, EntityDef}
use Rattle.hib_base.specs.Fits.{entity_columns, has_default}
use Rattle.hib_base.specs.Tables.{Tables, with_absent}

-- a row lacks columns, and each column that it lacks has a default
abbrev pub is_narrow : List ColumnDef → List Cell → Bool
is_narrow ds cs = nat_lt (length cs) (length ds) && list_all has_default (drop (length cs) ds)

abbrev pub before_default : Option Cell → List Cell → List Cell
before_default None cs = cs
before_default (Some c) cs = c ∷ cs

-- the defaults of columns, in order
abbrev pub defaults_of : List ColumnDef → List Cell
defaults_of [] = []
defaults_of (d ∷ ds) = before_default d.default (defaults_of ds)

-- a row that lacks columns gets their defaults at its end, if each of these columns has one
abbrev pub widened_cells : List ColumnDef → List Cell → List Cell
widened_cells ds cs = if is_narrow ds cs then cs ++ defaults_of (drop (length cs) ds) else cs

abbrev pub widened_row : List ColumnDef → Row → Row
widened_row ds r = record r { cells = widened_cells ds r.cells }

-- a row of a declared entity by the entity's columns; one of another entity stays
abbrev pub widened_entry : List EntityDef → Key × Row → Key × Row
widened_entry mapping e = (e.0, widened_row (entity_columns mapping e.0.entity) e.1)

-- tables in which each row is so; versions stay
abbrev pub widened : List EntityDef → Tables → Tables
widened mapping kept = map (λ e. widened_entry mapping e) kept

-- the kept rows widened, and each row of the script whose key has none
abbrev pub start : List EntityDef → Tables → Tables → Tables
start mapping kept rows = with_absent (widened mapping kept) rows
