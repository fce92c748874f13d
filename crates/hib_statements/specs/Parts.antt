-- Keys, cells and pairs of columns and cells, from tokens.
use Rattle.std.specs.Prelude.{ℕ, Bool, true, false, if◌then◌else◌, not, ◌&&◌, ◌||◌, nat_le, nat_lt, List, [], ◌∷◌, ◌++◌, length, pos, Option, Some, None, is_none, option_map, Result, Ok, Err}
pub use Rattle.hib_base.specs.Words.{has_name}
use Rattle.hib_base.specs.declared.numbers.Key.{Key}
use Rattle.hib_base.specs.declared.refusals.Kind.{Kind}
use Rattle.hib_base.specs.declared.rows.Cell.{Cell}
use Rattle.hib_base.specs.declared.scripts.ColumnDef.{ColumnDef}
use Rattle.hib_base.specs.declared.scripts.EntityDef.{EntityDef}
use Rattle.hib_lex.specs.declared.lexer.Token.{Token}
use Rattle.hib_mapping.specs.Parts.{is_a_word, is_a_number, word_of, entity_at}
use Rattle.hib_columns.specs.Columns.{plain_column, place_or_first}
use Rattle.hib_mapping.specs.Cells.{cell_of, has_type}
use Rattle.hib_columns.specs.declared.columns.Found.{Found}
use Rattle.hib_statements.specs.declared.parts.Pairs.{Pairs}
use Rattle.hib_statements.specs.declared.parts.Awaited.{Awaited}
use Rattle.hib_statements.specs.declared.parts.Draft.{Draft}

-- ---- keys
abbrev pub is_key : Token → Token → Bool
is_key name id = is_a_word name && is_a_number id

abbrev pub size_in : Token → ℕ
size_in (Token.Number (pos n)) = n
size_in _ = 0

-- identifiers begin at 1
abbrev pub key_in : Option ℕ → ℕ → Result Key Kind
key_in None n = Err Kind.Unknown
key_in (Some e) n = if nat_le 1 n then Ok (record { entity = e; id = n }) else Err Kind.Number

-- the key of a name and a number, or what is wrong with it
abbrev pub key_of : List EntityDef → Token → Token → Result Key Kind
key_of m name id = key_in (entity_at m (word_of name)) (size_in id)

-- ---- cells
abbrev pub before_cells : Option Cell → Option (List Cell) → Option (List Cell)
before_cells None cs = None
before_cells (Some c) cs = option_map (λ rest. c ∷ rest) cs

-- the cells that tokens are, or none if one of them is no cell
abbrev pub cells_of : List Token → Option (List Cell)
cells_of [] = Some []
cells_of (t ∷ ts) = before_cells (cell_of t) (cells_of ts)

-- each cell has the type of its column
abbrev pub are_typed : List ColumnDef → List Cell → Bool
are_typed (d ∷ ds) (c ∷ cs) = has_type d.kind c && are_typed ds cs
are_typed _ _ = true

-- ---- pairs
abbrev pub no_pairs : Pairs
no_pairs = record { sets = []; names = []; taken = false; unknown = false; mistyped = false }

abbrev pub at : Pairs → Awaited → Option Draft
at p a = Some (record { pairs = p; awaited = a })

abbrev pub new_column : Pairs → List ℕ → Option Found → Option Draft
new_column p w c =
    at (record p { names = p.names ++ w ∷ []; taken = p.taken || has_name p.names w; unknown = p.unknown || is_none c }) (Awaited.Value c)

abbrev pub with_column : List ColumnDef → Pairs → Token → Option Draft
with_column ds p t = if is_a_word t then new_column p (word_of t) (plain_column ds (word_of t)) else None

abbrev pub is_found : Option Found → Cell → Bool
is_found None x = true
is_found (Some d) x = has_type d.kind x

abbrev pub with_pair : Pairs → Option Found → Cell → Pairs
with_pair p c x = record p { sets = p.sets ++ (place_or_first c, x) ∷ []; mistyped = p.mistyped || not (is_found c x) }

abbrev pub with_cell : Pairs → Option Found → Option Cell → Option Draft
with_cell p c None = None
with_cell p c (Some x) = at (with_pair p c x) Awaited.Name

abbrev pub with_awaited : List ColumnDef → Pairs → Awaited → Token → Option Draft
with_awaited ds p Awaited.Name t = with_column ds p t
with_awaited ds p (Awaited.Value c) t = with_cell p c (cell_of t)

abbrev pub with_token : List ColumnDef → Draft → Token → Option Draft
with_token ds d t = with_awaited ds d.pairs d.awaited t

abbrev pub is_name : Awaited → Bool
is_name Awaited.Name = true
is_name _ = false

-- one pair or more
abbrev pub ended : Draft → Option Pairs
ended d = if nat_lt 0 (length d.pairs.sets) && is_name d.awaited then Some d.pairs else None

abbrev pub pairs_from : List ColumnDef → Option Draft → List Token → Option Pairs
pairs_from ds None ts = None
pairs_from ds (Some d) [] = ended d
pairs_from ds (Some d) (t ∷ ts) = pairs_from ds (with_token ds d t) ts

-- the pairs of a column and a cell that tokens are
abbrev pub pairs_of : List ColumnDef → List Token → Option Pairs
pairs_of ds ts = pairs_from ds (at no_pairs Awaited.Name) ts
