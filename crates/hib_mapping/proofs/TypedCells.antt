-- Cells that tokens are: numbers have 64 bits, texts are short and printable.
use Rattle.std.proofs.Common.{◌≡◌, Bool, true, false, cond, Some, None, codes, refl}
use Rattle.std.proofs.lemmas.Bool.{false≢true}
use Rattle.hib_base.specs.Fits.{is_text, is_wide, is_of_type}
use Rattle.hib_base.specs.declared.rows.Cell.{Cell}
use Rattle.hib_base.specs.declared.scripts.ColumnType.{ColumnType}
use Rattle.hib_base.proofs.Gives.{Then, then_cond}
use Rattle.hib_mapping.specs.Cells.{cell_of, truth_of, has_type}
use Rattle.hib_lex.specs.Words.{is_the_word}
use Rattle.hib_lex.specs.declared.lexer.Token.{Token}
use Rattle.hib_lex.proofs.Lexed.{is_lexed}

abbrev pub is_cell : Cell → Bool
is_cell (Cell.Int n) = is_wide n
is_cell (Cell.Text t) = is_text t
is_cell _ = true

truth_sound : (t : Token) → Then (truth_of t) (λ c. is_cell c ≡ true)
truth_sound t =
    then_cond (is_the_word (codes "true") t) (Some (Cell.Bool true)) (cond (is_the_word (codes "false") t) (Some (Cell.Bool false)) None) (λ c. is_cell c ≡ true) (λ _. refl)
    (λ _. then_cond (is_the_word (codes "false") t) (Some (Cell.Bool false)) None (λ c. is_cell c ≡ true) (λ _. refl) (λ _. tt))

pub cell_sound : (t : Token) → is_lexed t ≡ true → Then (cell_of t) (λ c. is_cell c ≡ true)
cell_sound (Token.Number n) h = h
cell_sound (Token.Quoted t) h = h
cell_sound t h = truth_sound t

pub typed_one : (k : ColumnType) (c : Cell) → has_type k c ≡ true → is_cell c ≡ true → is_of_type k c ≡ true
typed_one ColumnType.Text (Cell.Text t) h i = i
typed_one ColumnType.Int (Cell.Int n) h i = i
typed_one (ColumnType.Ref e) (Cell.Int n) h i = i
typed_one ColumnType.Bool (Cell.Bool b) h i = refl
typed_one _ _ h i = absurd (false≢true h)
