-- Tables, statements and queries that fit a mapping.
use Rattle.std.specs.Prelude.{ℕ, Bool, true, false, not, if◌then◌else◌, ◌&&◌, ◌||◌, ◌==◌, List, [], ◌∷◌, length, map, slice_get, nat_lt, nat_le, Some, None, Option, option_and_then, is_some, ℤ, pos, negsuc}
use Rattle.std.specs.List.{list_all}
use Rattle.hib_base.specs.Types.{Key, Cell, Row, ColumnType, ColumnDef, EntityDef, Op, Path, Target, Sort, Select, Statement}
use Rattle.hib_base.specs.declared.scripts.Node.{Node}
use Rattle.hib_base.specs.Apart.{are_apart_by}
use Rattle.hib_base.specs.Queries.{Said}
use Rattle.hib_base.specs.Tables.{Tables}

-- ---- rows

abbrev pub is_printable : ℕ → Bool
is_printable b = nat_le 32 b && nat_le b 126

-- a text of at most 200 bytes, all of them printable
abbrev pub is_text : List ℕ → Bool
is_text bytes = nat_le (length bytes) 200 && list_all is_printable bytes

-- a number of 64 bits with a sign
abbrev pub is_wide : ℤ → Bool
is_wide (pos n) = nat_lt n 9223372036854775808
is_wide (negsuc n) = nat_lt n 9223372036854775808

-- a cell of a column's type; a reference is the number of its target
abbrev pub is_of_type : ColumnType → Cell → Bool
is_of_type ColumnType.Int (Cell.Int n) = is_wide n
is_of_type (ColumnType.Ref e) (Cell.Int n) = is_wide n
is_of_type ColumnType.Text (Cell.Text t) = is_text t
is_of_type ColumnType.Bool (Cell.Bool b) = true
is_of_type _ _ = false

-- one cell of each column's type
abbrev pub are_of_types : List ColumnDef → List Cell → Bool
are_of_types [] [] = true
are_of_types (d ∷ ds) (c ∷ cs) = is_of_type d.kind c && are_of_types ds cs
are_of_types _ _ = false

-- a version exactly if the entity is versioned, below 4,000,000,000
abbrev pub is_version : Bool → Option ℕ → Bool
is_version true (Some v) = nat_lt v 4000000000
is_version false None = true
is_version _ _ = false

abbrev pub is_identifier : ℕ → Bool
is_identifier id = nat_le 1 id && nat_lt id 9223372036854775808

abbrev pub fits_entity : Option EntityDef → Key → Row → Bool
fits_entity None k r = true
fits_entity (Some d) k r = is_identifier k.id && (is_version d.versioned r.version && are_of_types d.columns r.cells)

-- each row of a declared entity has an identifier, a version if it has to, and cells of its columns' types
abbrev pub fits : List EntityDef → Tables → Bool
fits mapping rows = list_all (λ e. fits_entity (slice_get mapping e.0.entity) e.0 e.1) rows

-- ---- columns
abbrev pub columns_in : Option EntityDef → List ColumnDef
columns_in None = []
columns_in (Some d) = d.columns

abbrev pub entity_columns : List EntityDef → ℕ → List ColumnDef
entity_columns mapping e = columns_in (slice_get mapping e)

abbrev pub kind_in : Option ColumnDef → Option ColumnType
kind_in None = None
kind_in (Some d) = Some d.kind

-- the type of the column at a place, if there is one
abbrev pub type_at : List ColumnDef → ℕ → Option ColumnType
type_at columns c = kind_in (slice_get columns c)

abbrev pub is_of_type_in : Option ColumnType → Cell → Bool
is_of_type_in None c = false
is_of_type_in (Some k) c = is_of_type k c

-- ---- defaults
abbrev pub has_default : ColumnDef → Bool
has_default d = is_some d.default

-- a default is a cell of its column's type
abbrev pub is_default : ColumnType → Option Cell → Bool
is_default k None = true
is_default k (Some c) = is_of_type k c

-- after a column that has a default each has one
abbrev pub ends_in_defaults : List ColumnDef → Bool
ends_in_defaults [] = true
ends_in_defaults (d ∷ ds) = (not (has_default d) || list_all has_default ds) && ends_in_defaults ds

abbrev pub are_defaults : List ColumnDef → Bool
are_defaults ds = list_all (λ d. is_default d.kind d.default) ds && ends_in_defaults ds

-- ---- statements
-- of a declared entity
abbrev pub is_key_in : List EntityDef → Key → Bool
is_key_in mapping k = nat_lt k.entity (length mapping) && is_identifier k.id

-- a column's place and a cell of its type
abbrev pub is_set : List ColumnDef → ℕ × Cell → Bool
is_set columns x = is_of_type_in (type_at columns x.0) x.1

-- one pair or more, and none of the columns twice
abbrev pub are_sets : List ColumnDef → List (ℕ × Cell) → Bool
are_sets columns xs =
    nat_le 1 (length xs) && (list_all (λ x. is_set columns x) xs && are_apart_by (λ c d. c == d) (map (λ x. x.0) xs))

abbrev pub fits_statement : List EntityDef → Statement → Bool
fits_statement mapping (Statement.Find k) = is_key_in mapping k
fits_statement mapping (Statement.Persist k cs) = is_key_in mapping k && are_of_types (entity_columns mapping k.entity) cs
fits_statement mapping (Statement.Set k xs) = is_key_in mapping k && are_sets (entity_columns mapping k.entity) xs
fits_statement mapping (Statement.Remove k) = is_key_in mapping k
fits_statement mapping _ = true

-- ---- queries
-- of the target's column, after a reference
abbrev pub type_through : List EntityDef → Target → ColumnType → Option ColumnType
type_through mapping g (ColumnType.Ref e) = if e == g.entity then type_at (entity_columns mapping e) g.column else None
type_through mapping g _ = None

abbrev pub type_led : List EntityDef → Option Target → ColumnType → Option ColumnType
type_led mapping None k = Some k
type_led mapping (Some g) k = type_through mapping g k

-- the type of the column to which a path leads from an entity, if there is one
abbrev pub type_of_path : List EntityDef → ℕ → Path → Option ColumnType
type_of_path mapping e p = option_and_then (λ k. type_led mapping p.target k) (type_at (entity_columns mapping e) p.column)

abbrev pub is_order : Op → Bool
is_order Op.Eq = false
is_order Op.Ne = false
is_order _ = true

abbrev pub is_bool : ColumnType → Bool
is_bool ColumnType.Bool = true
is_bool _ = false

-- bools have no order
abbrev pub is_comparable : Op → Option ColumnType → Bool
is_comparable op None = true
is_comparable op (Some k) = not (is_order op) || not (is_bool k)

-- a part of a condition
abbrev pub fits_part : List EntityDef → ℕ → Node → Bool
fits_part mapping e (Node.Test op p c) = is_of_type_in (type_of_path mapping e p) c && is_comparable op (type_of_path mapping e p)
fits_part mapping e (Node.Among p cs) = list_all (λ c. is_of_type_in (type_of_path mapping e p) c) cs
fits_part mapping e _ = true

-- by a column that is there
abbrev pub fits_sort : List ColumnDef → Sort → Bool
fits_sort columns s = nat_lt s.column (length columns)

abbrev pub fits_select : List ColumnDef → Select → Bool
fits_select columns (Select.Column c) = nat_lt c (length columns)
fits_select columns _ = true

abbrev pub fits_query : List EntityDef → Said → Bool
fits_query mapping q =
    list_all (λ x. fits_part mapping q.entity x) q.parts
    && (list_all (λ s. fits_sort (entity_columns mapping q.entity) s) q.order && fits_select (entity_columns mapping q.entity) q.select)
