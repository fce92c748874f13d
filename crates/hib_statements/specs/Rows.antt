-- The row that a line gives, or the first thing that is wrong with it:
-- row ENTITY ID vN CELL .. of a versioned entity, row ENTITY ID CELL .. of a plain one
use Rattle.std.specs.Prelude.{ℕ, suc, Bool, true, false, if◌then◌else◌, ◌==◌, nat_le, List, [], ◌∷◌, length, slice_get, Option, Some, None, Result, Ok, Err, ◌≡◌}
use Rattle.std.specs.List.{list_any}
use Rattle.hib_base.specs.Keys.{same_key}
use Rattle.hib_base.specs.declared.numbers.Key.{Key}
use Rattle.hib_base.specs.declared.refusals.Kind.{Kind}
use Rattle.hib_base.specs.declared.rows.Cell.{Cell}
use Rattle.hib_base.specs.declared.rows.Row.{Row}
use Rattle.hib_base.specs.declared.scripts.ColumnDef.{ColumnDef}
use Rattle.hib_base.specs.declared.scripts.EntityDef.{EntityDef}
use Rattle.hib_base.specs.Valid.{max_version}
use Rattle.hib_lex.specs.Tokens.{is_natural, size_of}
use Rattle.hib_lex.specs.declared.lexer.Token.{Token}
use Rattle.hib_mapping.specs.Parts.{word_of, entity_at}
use Rattle.hib_columns.specs.Columns.{columns_of}
use Rattle.hib_statements.specs.Parts.{is_key, key_of, cells_of, are_typed}
use Rattle.hib_statements.specs.declared.errors.StatementError.{StatementError}
use Rattle.hib_statements.specs.declared.rows.Told.{Told}

-- ---- vN: the letter v and digits that don't begin with 0, or 0
-- what is above the greatest version, however wide, counts as the next number
abbrev pub capped : ℕ → ℕ
capped n = if nat_le n max_version then n else suc max_version

abbrev pub size_named : List ℕ → Option ℕ
size_named ds = if is_natural ds then Some (capped (size_of ds)) else None

abbrev pub version_word : List ℕ → Option ℕ
version_word [] = None
version_word (b ∷ bs) = if b == 118 then size_named bs else None

abbrev pub version_of : Token → Option ℕ
version_of (Token.Word w) = version_word w
version_of _ = None

-- ---- what stands after the key: a version, or none, and cells
abbrev pub with_version : Option ℕ → Option (List Cell) → Option Told
with_version v None = None
with_version v (Some cs) = Some (record { version = v; cells = cs })

abbrev pub behind_version : Option ℕ → List Token → Option Told
behind_version None ts = None
behind_version (Some v) ts = with_version (Some v) (cells_of ts)

abbrev pub versioned_told : List Token → Option Told
versioned_told [] = None
versioned_told (t ∷ ts) = behind_version (version_of t) ts

abbrev pub plain_told : List Token → Option Told
plain_told ts = with_version None (cells_of ts)

abbrev pub or_plain : List Token → Option Told → Option Told
or_plain ts None = plain_told ts
or_plain ts (Some x) = Some x

-- a row of an unknown entity has a form if it has that of a versioned or of a plain one
abbrev pub told_in : Option Bool → List Token → Option Told
told_in None ts = or_plain ts (versioned_told ts)
told_in (Some true) ts = versioned_told ts
told_in (Some false) ts = plain_told ts

abbrev pub versioning_of : Option EntityDef → Option Bool
versioning_of None = None
versioning_of (Some e) = Some e.versioned

abbrev pub versioning_at : List EntityDef → ℕ → Option Bool
versioning_at m n = versioning_of (slice_get m n)

-- whether an entity is versioned, if there is one
abbrev pub versioning_in : List EntityDef → Option ℕ → Option Bool
versioning_in m None = None
versioning_in m (Some n) = versioning_at m n

-- ---- the row
abbrev pub has_key : List (Key × Row) → Key → Bool
has_key rows k = list_any (λ e. same_key e.0 k) rows

-- at most 1,000,000
abbrev pub is_small_version : Option ℕ → Bool
is_small_version None = true
is_small_version (Some v) = nat_le v max_version

abbrev pub fitted_row : List ColumnDef → Key → Told → Result (Key × Row) Kind
fitted_row ds k x =
    if is_small_version x.version
    then (if length ds == length x.cells
    then (if are_typed ds x.cells then Ok (k, record { version = x.version; cells = x.cells }) else Err Kind.CellType) else Err Kind.Cells)
    else Err Kind.Number

abbrev pub row_from : List ColumnDef → List (Key × Row) → Result Key Kind → Told → Result (Key × Row) Kind
row_from ds rows (Err k) x = Err k
row_from ds rows (Ok key) x = if has_key rows key then Err Kind.Taken else fitted_row ds key x

abbrev pub row_told : List ColumnDef → List (Key × Row) → Result Key Kind → Option Told → Result (Key × Row) Kind
row_told ds rows key None = Err Kind.Words
row_told ds rows key (Some x) = row_from ds rows key x

abbrev pub row_at_entity : List EntityDef → List (Key × Row) → Option ℕ → Result Key Kind → List Token → Result (Key × Row) Kind
row_at_entity m rows e key ts = row_told (columns_of m e) rows key (told_in (versioning_in m e) ts)

abbrev pub row_parts : List EntityDef → List (Key × Row) → Token → Token → List Token → Result (Key × Row) Kind
row_parts m rows name id ts =
    if is_key name id then row_at_entity m rows (entity_at m (word_of name)) (key_of m name id) ts else Err Kind.Words

-- the key and row of a line after these rows, or the first thing that is wrong with it
abbrev pub row_of : List EntityDef → List (Key × Row) → List Token → Result (Key × Row) Kind
row_of m rows (first ∷ name ∷ id ∷ ts) = row_parts m rows name id ts
row_of m rows _ = Err Kind.Words

-- what an error says; want of memory says nothing
abbrev pub IsWhyNot : Result (Key × Row) Kind → StatementError → Type 0
IsWhyNot r StatementError.NoMemory = Unit {0}
IsWhyNot r (StatementError.Fault k) = r ≡ Err k
