-- Which fields are well formed: names that the script knows, and numbers and texts within their limits.
use Rattle.std.specs.Prelude.{ℕ, ◌^◌, Bool, true, ◌&&◌, nat_lt, nat_le, List, length, pos, negsuc, Option, Some, None}
use Rattle.std.specs.List.{list_all}
use Rattle.hib_journal.specs.Types.{Key, Cell, Row, Script}
use Rattle.hib_base.specs.Fits.{is_text, is_key_in, entity_columns}

abbrev pub is_key : Script → Key → Bool
is_key script k = is_key_in script.mapping k

abbrev pub is_entity : Script → ℕ → Bool
is_entity script n = nat_lt n (length script.mapping)

abbrev pub is_query : Script → ℕ → Bool
is_query script q = nat_lt q (length script.queries)

abbrev pub is_session : Script → ℕ → Bool
is_session script s = nat_lt s (length script.sessions)

abbrev pub is_tick : ℕ → Bool
is_tick t = nat_le t (2 ^ 62)

-- none, or a number of 32 bits
abbrev pub is_version : Option ℕ → Bool
is_version None = true
is_version (Some v) = nat_lt v (2 ^ 32)

-- a number of 64 bits with its sign, a text of at most 200 printable bytes, or a bool
abbrev pub is_cell : Cell → Bool
is_cell (Cell.Int (pos n)) = nat_lt n (2 ^ 63)
is_cell (Cell.Int (negsuc n)) = nat_lt n (2 ^ 63)
is_cell (Cell.Text t) = is_text t
is_cell (Cell.Bool b) = true

abbrev pub are_cells : List Cell → Bool
are_cells cells = list_all is_cell cells

-- with any number of cells
abbrev pub is_row : Row → Bool
is_row r = is_version r.version && are_cells r.cells

-- one table or more
abbrev pub are_tables : Script → List ℕ → Bool
are_tables script ts = nat_le 1 (length ts) && list_all (λ t. is_entity script t) ts

-- a column of the entity, and a cell
abbrev pub is_set : Script → ℕ → ℕ × Cell → Bool
is_set script entity x = nat_lt x.0 (length (entity_columns script.mapping entity)) && is_cell x.1

-- one pair or more
abbrev pub are_sets : Script → ℕ → List (ℕ × Cell) → Bool
are_sets script entity xs = nat_le 1 (length xs) && list_all (λ x. is_set script entity x) xs
