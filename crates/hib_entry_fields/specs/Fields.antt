-- What bytes look like, field by field. Every function here is total: bytes that look like nothing give some value, which is found
-- out when the value is written again.
use Rattle.std.specs.Prelude.{ℕ, zero, suc, ◌^◌, Bool, true, false, if◌then◌else◌, ◌||◌, ◌==◌, nat_lt, nat_le, List, [], ◌∷◌, length, take, drop, position, codes, bytes_eq, ℤ, pos, neg_ℤ, Option, Some, None, option_map}
use Rattle.hib_lex.specs.Tokens.{size_of, is_digit}
use Rattle.hib_journal.specs.Types.{Key, Cell, Row, Query, ColumnDef, EntityDef, SessionDef, Script}
use Rattle.hib_base.specs.Fits.{entity_columns}

-- ---- pieces: what stands between spaces

-- a space, or the end of a list
abbrev pub is_stop : ℕ → Bool
is_stop b = (b == 32) || (b == 93)

abbrev pub piece_len : List ℕ → ℕ
piece_len [] = 0
piece_len (b ∷ bs) = if is_stop b then 0 else suc (piece_len bs)

unfoldable pub piece : List ℕ → List ℕ
piece bs = take (piece_len bs) bs

unfoldable pub behind : List ℕ → List ℕ
behind bs = drop (piece_len bs) bs

-- the piece after a space, and what follows it
unfoldable pub next : List ℕ → List ℕ
next bs = piece (drop 1 bs)

unfoldable pub after : List ℕ → List ℕ
after bs = behind (drop 1 bs)

-- ---- numbers

unfoldable pub number_of : List ℕ → ℕ
number_of p = if nat_lt (size_of p) (2 ^ 64) then size_of p else 0

abbrev pub small : ℕ → ℕ → ℕ
small limit n = if nat_lt n limit then n else 0

abbrev pub below_zero : ℕ → ℤ
below_zero n = if nat_le n (2 ^ 63) then neg_ℤ (pos n) else pos 0

abbrev pub signed_of : List ℕ → ℤ
signed_of [] = pos 0
signed_of (b ∷ bs) = if b == 45 then below_zero (number_of bs) else pos (small (2 ^ 63) (number_of (b ∷ bs)))

-- v and a number, or v-
abbrev pub version_of : List ℕ → Option ℕ
version_of [] = None
version_of (b ∷ bs) = if bytes_eq bs (codes "-") then None else Some (small (2 ^ 32) (number_of bs))

-- ---- names

abbrev pub place : ℕ → Option ℕ → ℕ
place limit None = 0
place limit (Some i) = small limit i

unfoldable pub entity_of : Script → List ℕ → ℕ
entity_of script name = place (2 ^ 16) (position (λ (d : EntityDef). bytes_eq d.name name) script.mapping)

unfoldable pub query_of : Script → List ℕ → ℕ
query_of script name = place (2 ^ 16) (position (λ (q : Query). bytes_eq q.name name) script.queries)

unfoldable pub session_of : Script → List ℕ → ℕ
session_of script name = place (2 ^ 32) (position (λ (s : SessionDef). bytes_eq s.name name) script.sessions)

-- whether there is a session, and it has this name
abbrev pub is_called : Option SessionDef → List ℕ → Bool
is_called None name = false
is_called (Some d) name = bytes_eq d.name name

unfoldable pub column_of : Script → ℕ → List ℕ → ℕ
column_of script entity name = place (2 ^ 16) (position (λ (d : ColumnDef). bytes_eq d.name name) (entity_columns script.mapping entity))

unfoldable pub key_at : Script → List ℕ → Key
key_at script bs = record { entity = entity_of script (next bs); id = number_of (next (after bs)) }

unfoldable pub after_key : List ℕ → List ℕ
after_key bs = after (after bs)

-- entities, each after a space
unfoldable pub names_from : Script → ℕ → List ℕ → List ℕ
names_from script zero bs = []
names_from script (suc n) [] = []
names_from script (suc n) (b ∷ bs) = entity_of script (next (b ∷ bs)) ∷ names_from script n (after (b ∷ bs))

-- ---- cells

-- a text up to its closing mark, and what follows; escaped says that a backslash stands before the bytes
unfoldable pub quoted : Bool → List ℕ → List ℕ × List ℕ
quoted escaped [] = ([], [])
quoted true (b ∷ bs) = (b ∷ (quoted false bs).0, (quoted false bs).1)
quoted false (b ∷ bs) = if b == 34 then ([], bs) else (if b == 92 then quoted true bs else (b ∷ (quoted false bs).0, (quoted false bs).1))

abbrev pub begins_number : List ℕ → Bool
begins_number [] = false
begins_number (b ∷ bs) = (b == 45) || (is_digit b)

-- a cell that is no text
unfoldable pub bare_cell : List ℕ → Option Cell
bare_cell p =
    if bytes_eq p (codes "true") then Some (Cell.Bool true)
    else (if bytes_eq p (codes "false") then Some (Cell.Bool false)
    else (if begins_number p then Some (Cell.Int (signed_of p)) else None))

abbrev pub bare_at : List ℕ → Option (Cell × List ℕ)
bare_at bs = option_map (λ c. (c, behind bs)) (bare_cell (piece bs))

abbrev pub text_at : List ℕ × List ℕ → Option (Cell × List ℕ)
text_at t = Some (Cell.Text t.0, t.1)

-- a cell and what follows it, or none
unfoldable pub cell_at : List ℕ → Option (Cell × List ℕ)
cell_at [] = None
cell_at (b ∷ bs) = if b == 34 then text_at (quoted false bs) else bare_at (b ∷ bs)

abbrev pub with_cell : (List ℕ → List Cell × List ℕ) → List ℕ → Option (Cell × List ℕ) → List Cell × List ℕ
with_cell read bs None = ([], bs)
with_cell read bs (Some c) = (c.0 ∷ (read c.1).0, (read c.1).1)

-- cells, each after one byte, and what follows them
unfoldable pub cells_from : ℕ → List ℕ → List Cell × List ℕ
cells_from zero bs = ([], bs)
cells_from (suc n) bs = with_cell (cells_from n) bs (cell_at (drop 1 bs))

unfoldable pub cells_at : List ℕ → List Cell × List ℕ
cells_at bs = cells_from (length bs) bs

unfoldable pub row_at : List ℕ → Row
row_at bs = record { version = version_of (next bs); cells = (cells_at (after bs)).0 }

unfoldable pub after_row : List ℕ → List ℕ
after_row bs = (cells_at (after bs)).1

-- ---- sets

-- a column and its cell, and what follows them, or none
unfoldable pub set_at : Script → ℕ → List ℕ → Option ((ℕ × Cell) × List ℕ)
set_at script entity bs = option_map (λ (c : Cell × List ℕ). ((column_of script entity (next bs), c.0), c.1)) (cell_at (drop 1 (after bs)))

abbrev pub with_set : (List ℕ → List (ℕ × Cell)) → Option ((ℕ × Cell) × List ℕ) → List (ℕ × Cell)
with_set read None = []
with_set read (Some s) = s.0 ∷ read s.1

-- columns of an entity with their cells, one after the other
unfoldable pub sets_from : Script → ℕ → ℕ → List ℕ → List (ℕ × Cell)
sets_from script entity zero bs = []
sets_from script entity (suc n) bs = with_set (sets_from script entity n) (set_at script entity bs)
