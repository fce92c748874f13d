-- The body of a row: the bytes of its cells. A byte with the number of cells, and then each cell.
use Rattle.std.specs.Prelude.{◌≡◌, ◌≤◌, ℕ, zero, suc, true, false, if◌then◌else◌, ◌==◌, nat_le, List, [], ◌∷◌, ◌++◌, length, take, drop, Some, None, Option, option_map, FitsSigned, All, ⊤}
use Rattle.std.specs.Int.{w64, to_be_bytes, from_be_bytes, cast_signed, cast_unsigned}
use Rattle.hib_sqlite_rows.specs.Types.{Cell}
use Rattle.hib_base.specs.declared.rows.Cell.TheVariants.{Int, Text, Bool as Truth}

-- a number: 1, and its eight bytes, the greatest first; a text: 2, its length, and its bytes; a truth: 3, and 1 or 0
abbrev pub packed_cell : Cell → List ℕ
packed_cell (Int n) = 1 ∷ to_be_bytes w64 (cast_unsigned w64 n)
packed_cell (Text t) = 2 ∷ length t ∷ t
packed_cell (Truth b) = 3 ∷ (if b then 1 else 0) ∷ []

abbrev pub packed_cells : List Cell → List ℕ
packed_cells [] = []
packed_cells (c ∷ cs) = packed_cell c ++ packed_cells cs

-- the number of cells, and then each
abbrev pub packed : List Cell → List ℕ
packed cells = length cells ∷ packed_cells cells

abbrev pub IsPackableCell : Cell → Type 0
IsPackableCell (Int n) = FitsSigned w64 n
IsPackableCell (Text t) = length t ≤ 255
IsPackableCell (Truth b) = ⊤

-- cells that have a body
pub record IsPackable (cells : List Cell) : Type 0 where
  pub count : length cells ≤ 255
  pub each : All IsPackableCell cells

-- bytes that are the body of cells
pub record IsBodyOf (cells : List Cell) (bytes : List ℕ) : Type 0 where
  pub packable : IsPackable cells
  pub is : packed cells ≡ bytes

abbrev pub IsBody : List ℕ → Type 0
IsBody bytes = (cells : List Cell) × IsBodyOf cells bytes

abbrev pub taken_number : List ℕ → Option (Cell × List ℕ)
taken_number rest = if nat_le 8 (length rest) then Some (Int (cast_signed w64 (from_be_bytes w64 (take 8 rest))), drop 8 rest) else None

abbrev pub taken_text : List ℕ → Option (Cell × List ℕ)
taken_text [] = None
taken_text (n ∷ rest) = if nat_le n (length rest) then Some (Text (take n rest), drop n rest) else None

abbrev pub taken_truth : List ℕ → Option (Cell × List ℕ)
taken_truth [] = None
taken_truth (b ∷ rest) = if b == 0 then Some (Truth false, rest) else (if b == 1 then Some (Truth true, rest) else None)

-- the first cell, and the bytes after it
abbrev pub taken : List ℕ → Option (Cell × List ℕ)
taken [] = None
taken (tag ∷ rest) = if tag == 1 then taken_number rest else (if tag == 2 then taken_text rest else (if tag == 3 then taken_truth rest else None))

abbrev pub with_more : Option (Cell × List ℕ) → (List ℕ → Option (List Cell)) → Option (List Cell)
with_more None more = None
with_more (Some p) more = option_map (λ cs. p.0 ∷ cs) (more p.1)

-- so many cells, and nothing after them
abbrev pub unpacked_cells : ℕ → List ℕ → Option (List Cell)
unpacked_cells zero [] = Some []
unpacked_cells zero (b ∷ bs) = None
unpacked_cells (suc n) bs = with_more (taken bs) (unpacked_cells n)

-- the cells whose body the bytes are, or none
abbrev pub unpacked : List ℕ → Option (List Cell)
unpacked [] = None
unpacked (n ∷ bs) = unpacked_cells n bs
