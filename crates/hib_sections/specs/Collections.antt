-- The section lines of collections: collection NAME ENTITY COL CAPACITY
use Rattle.std.specs.Prelude.{◌≡◌, ℕ, Bool, true, false, if◌then◌else◌, not, ◌&&◌, ◌==◌, ◌≤◌, nat_le, List, [], ◌∷◌, ◌++◌, length, codes, bytes_eq, slice_get, Option, Some, None, option_and_then, Result, Ok, Err}
use Rattle.std.specs.List.{list_all, list_any}
use Rattle.std.specs.Option.{option_map_or}
use Rattle.hib_base.specs.declared.refusals.Kind.{Kind}
use Rattle.hib_base.specs.declared.refusals.Refused.{Refused}
use Rattle.hib_base.specs.declared.scripts.ColumnType.{ColumnType}
use Rattle.hib_base.specs.declared.scripts.EntityDef.{EntityDef}
use Rattle.hib_lex.specs.Words.{begins}
use Rattle.hib_lex.specs.declared.lexer.Token.{Token}
use Rattle.hib_lex.specs.declared.lines.Line.{Line}
use Rattle.hib_mapping.specs.Parts.{is_a_word, is_a_number, word_of, is_within, number_up_to, entity_at, is_reserved}
use Rattle.hib_columns.specs.Columns.{columns_of, plain_column}
use Rattle.hib_base.specs.Valid.{max_capacity}
use Rattle.hib_collections_law.specs.declared.entries.Def.{Def}
use Rattle.hib_collections_law.specs.Types.{max_collections}
use Rattle.hib_sections.specs.Schedules.{other_order}
use Rattle.hib_sections.specs.declared.collections.Place.{Place}
use Rattle.hib_sections.specs.declared.errors.LineError.{LineError}

-- ---- a line
abbrev pub has_name : List ℕ → List Def → Bool
has_name w ds = list_any (λ d. bytes_eq d.name w) ds

abbrev pub has_column : ℕ → ℕ → List Def → Bool
has_column e c ds = list_any (λ d. (d.entity == e) && (d.column == c)) ds

abbrev pub is_versioned : List EntityDef → ℕ → Bool
is_versioned m e = option_map_or (λ d. d.versioned) (slice_get m e) false

-- a column that refers, by its place
abbrev pub place_by : ℕ → ColumnType → Option ℕ
place_by c (ColumnType.Ref e) = Some c
place_by c _ = None

abbrev pub reference : List EntityDef → Option ℕ → List ℕ → Option ℕ
reference m e w = option_and_then (λ f. place_by f.place f.kind) (plain_column (columns_of m e) w)

abbrev pub at_column : List EntityDef → List Def → Token → ℕ → ℕ → Result Place Kind
at_column m ds capacity e c =
    if has_column e c ds then Err Kind.Taken
    else if not (is_within 1 max_capacity capacity) then Err Kind.Number
    else if not (is_versioned m e) then Err Kind.Plain
    else if nat_le max_collections (length ds) then Err Kind.Many
    else Ok (record { entity = e; column = c; capacity = number_up_to max_capacity capacity })

abbrev pub if_known : List EntityDef → List Def → Token → Option ℕ → Option ℕ → Result Place Kind
if_known m ds capacity (Some e) (Some c) = at_column m ds capacity e c
if_known m ds capacity _ _ = Err Kind.Unknown

abbrev pub in_entity : List EntityDef → List Def → Option ℕ → Token → Token → Result Place Kind
in_entity m ds e column capacity = if_known m ds capacity e (reference m e (word_of column))

-- what a line of five tokens declares
abbrev pub is_form : Token → Token → Token → Token → Bool
is_form name entity column capacity = is_a_word name && (is_a_word entity && (is_a_word column && is_a_number capacity))

abbrev pub declared_by : List EntityDef → List Def → Token → Token → Token → Token → Result Place Kind
declared_by m ds name entity column capacity =
    if not (is_form name entity column capacity) then Err Kind.Words
    else if is_reserved (word_of name) then Err Kind.Reserved
    else if has_name (word_of name) ds then Err Kind.Taken
    else in_entity m ds (entity_at m (word_of entity)) column capacity

abbrev pub declared_in : List EntityDef → List Def → List Token → Result Place Kind
declared_in m ds (first ∷ name ∷ entity ∷ column ∷ capacity ∷ []) = declared_by m ds name entity column capacity
declared_in m ds _ = Err Kind.Words

abbrev pub place_of : List EntityDef → List Def → List Token → Result Place Kind
place_of m ds ts = if begins (codes "collection") ts then declared_in m ds ts else Err Kind.Line

abbrev pub named : List Token → Place → Result Def Kind
named (first ∷ name ∷ ts) p = Ok (record { name = word_of name; entity = p.entity; column = p.column; capacity = p.capacity })
named _ p = Err Kind.Words

abbrev pub if_placed : List Token → Result Place Kind → Result Def Kind
if_placed ts (Err k) = Err k
if_placed ts (Ok p) = named ts p

-- the collection of a line, after those so far; or the first thing that is wrong with it
abbrev pub collection_of : List EntityDef → List Def → List Token → Result Def Kind
collection_of m ds ts = if_placed ts (place_of m ds ts)

-- what an error of a line says; want of memory says nothing
abbrev pub IsFault : {A : Type 0} → Result A Kind → LineError → Type 0
IsFault r LineError.NoMemory = Unit {0}
IsFault r (LineError.Fault k) = r ≡ Err k

-- ---- all lines
abbrev pub with_collection : List Def → ℕ → Result Def Kind → Result (List Def) Refused
with_collection ds n (Err k) = Err (record { line = n; kind = k })
with_collection ds n (Ok d) = Ok (ds ++ d ∷ [])

abbrev pub with_line : List EntityDef → List Def → Line → Result (List Def) Refused
with_line m ds l = with_collection ds l.line (collection_of m ds l.tokens)

-- the collections after the lines that are left; the first bad one ends it
abbrev pub declaring : List EntityDef → Result (List Def) Refused → List Line → Result (List Def) Refused
declaring m (Err r) ls = Err r
declaring m (Ok ds) [] = Ok ds
declaring m (Ok ds) (l ∷ ls) = declaring m (with_line m ds l) ls

abbrev pub unless_other : Option ℕ → Result (List Def) Refused → Result (List Def) Refused
unless_other (Some n) r = Err (record { line = n; kind = Kind.Order })
unless_other None r = r

-- the collections of a section after the lines of a script; or the first bad line of both
abbrev pub collections_of : List EntityDef → List Line → List Line → Result (List Def) Refused
collections_of m before behind = unless_other (other_order before) (declaring m (Ok []) behind)

-- they aren't more than the limit, each of an entity whose rows have versions
pub record AreFit (m : List EntityDef) (ds : List Def) : Type 0 where
  pub few : length ds ≤ max_collections
  pub versioned : list_all (λ d. is_versioned m d.entity) ds ≡ true
