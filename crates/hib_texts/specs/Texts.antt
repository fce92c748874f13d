-- The texts of cells, rows, names and keys, as bytes.
use Rattle.std.specs.Prelude.{ℕ, ◌==◌, ◌||◌, Bool, true, false, if◌then◌else◌, List, [], ◌∷◌, ◌++◌, slice_get, codes, flat_map, Some, None, Option}
use Rattle.std.specs.List.{join_by}
use Rattle.std.specs.Fmt.{decimal, signed_decimal}
use Rattle.hib_base.specs.declared.numbers.Key.{Key}
use Rattle.hib_base.specs.declared.rows.Cell.{Cell}
use Rattle.hib_base.specs.declared.rows.Row.{Row}
use Rattle.hib_base.specs.declared.scripts.ColumnDef.{ColumnDef}
use Rattle.hib_base.specs.declared.scripts.EntityDef.{EntityDef}
use Rattle.hib_base.specs.declared.scripts.Query.{Query}
use Rattle.hib_base.specs.declared.scripts.SessionDef.{SessionDef}
use Rattle.hib_base.specs.declared.scripts.Script.{Script}

-- rows

-- a byte of a text, with a backslash before a quote and before a backslash
abbrev pub escaped : ℕ → List ℕ
escaped b = if (b == 34) || (b == 92) then 92 ∷ b ∷ [] else b ∷ []

abbrev pub bool_text : Bool → List ℕ
bool_text true = codes "true"
bool_text false = codes "false"

abbrev pub quoted : List ℕ → List ℕ
quoted t = codes "\"" ++ flat_map escaped t ++ codes "\""

abbrev pub cell_text : Cell → List ℕ
cell_text (Cell.Int n) = signed_decimal n
cell_text (Cell.Text t) = quoted t
cell_text (Cell.Bool b) = bool_text b

abbrev pub version_text : Option ℕ → List ℕ
version_text None = codes "v-"
version_text (Some v) = codes "v" ++ decimal v

abbrev pub row_text : Row → List ℕ
row_text row = version_text row.version ++ flat_map (λ c. codes " " ++ cell_text c) row.cells

abbrev pub list_text : List Cell → List ℕ
list_text cells = codes "[" ++ join_by cell_text (codes " ") cells ++ codes "]"

-- names: a number that the script does not know has no text

abbrev pub entity_name : Option EntityDef → List ℕ
entity_name None = []
entity_name (Some d) = d.name

abbrev pub entity_text : Script → ℕ → List ℕ
entity_text script n = entity_name (slice_get script.mapping n)

abbrev pub query_name : Option Query → List ℕ
query_name None = []
query_name (Some q) = q.name

abbrev pub query_text : Script → ℕ → List ℕ
query_text script n = query_name (slice_get script.queries n)

abbrev pub session_name : Option SessionDef → List ℕ
session_name None = []
session_name (Some d) = d.name

abbrev pub session_text : Script → ℕ → List ℕ
session_text script n = session_name (slice_get script.sessions n)

abbrev pub column_name : Option ColumnDef → List ℕ
column_name None = []
column_name (Some d) = d.name

abbrev pub column_in : Option EntityDef → ℕ → List ℕ
column_in None n = []
column_in (Some d) n = column_name (slice_get d.columns n)

abbrev pub column_text : Script → ℕ → ℕ → List ℕ
column_text script entity n = column_in (slice_get script.mapping entity) n

abbrev pub key_text : Script → Key → List ℕ
key_text script k = entity_text script k.entity ++ codes " " ++ decimal k.id

abbrev pub names_text : Script → List ℕ → List ℕ
names_text script ns = flat_map (λ n. codes " " ++ entity_text script n) ns

abbrev pub sets_text : Script → ℕ → List (ℕ × Cell) → List ℕ
sets_text script entity sets = flat_map (λ s. codes " " ++ column_text script entity s.0 ++ codes " " ++ cell_text s.1) sets
