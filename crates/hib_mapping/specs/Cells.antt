-- The cells that tokens are, and the types that cells have.
use Rattle.std.specs.Prelude.{Bool, true, false, if◌then◌else◌, ◌||◌, Option, Some, None, codes}
use Rattle.hib_base.specs.declared.rows.Cell.{Cell}
use Rattle.hib_base.specs.declared.scripts.ColumnType.{ColumnType}
use Rattle.hib_lex.specs.Words.{is_the_word}
use Rattle.hib_lex.specs.declared.lexer.Token.{Token}
use Rattle.hib_mapping.specs.Parts.{is_a_number}

abbrev pub truth_of : Token → Option Cell
truth_of t =
    if is_the_word (codes "true") t then Some (Cell.Bool true)
    else (if is_the_word (codes "false") t then Some (Cell.Bool false) else None)

abbrev pub cell_of : Token → Option Cell
cell_of (Token.Number n) = Some (Cell.Int n)
cell_of (Token.Quoted t) = Some (Cell.Text t)
cell_of t = truth_of t

abbrev pub is_truth : Token → Bool
is_truth t = is_the_word (codes "true") t || is_the_word (codes "false") t

abbrev pub is_quoted : Token → Bool
is_quoted (Token.Quoted t) = true
is_quoted _ = false

-- a number, a text, `true` or `false`
abbrev pub is_a_cell : Token → Bool
is_a_cell t = is_a_number t || (is_quoted t || is_truth t)

-- a cell of a column's type; a reference is a number
abbrev pub is_cell_of : ColumnType → Token → Bool
is_cell_of ColumnType.Int t = is_a_number t
is_cell_of (ColumnType.Ref e) t = is_a_number t
is_cell_of ColumnType.Text t = is_quoted t
is_cell_of ColumnType.Bool t = is_truth t

abbrev pub has_type : ColumnType → Cell → Bool
has_type ColumnType.Int (Cell.Int n) = true
has_type (ColumnType.Ref e) (Cell.Int n) = true
has_type ColumnType.Text (Cell.Text t) = true
has_type ColumnType.Bool (Cell.Bool b) = true
has_type _ _ = false
