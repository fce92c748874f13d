-- What single tokens are, and what names stand for.
use Rattle.std.specs.Prelude.{ℕ, Bool, true, false, if◌then◌else◌, ◌&&◌, nat_le, nat_lt, List, [], ◌∷◌, pos, Option, Some, None, option_and_then, position, bytes_eq}
pub use Rattle.hib_base.specs.Words.{is_reserved}
use Rattle.hib_base.specs.declared.scripts.ColumnDef.{ColumnDef}
use Rattle.hib_base.specs.declared.scripts.EntityDef.{EntityDef}
use Rattle.hib_lex.specs.declared.lexer.Token.{Token}

-- ---- tokens
abbrev pub is_a_word : Token → Bool
is_a_word (Token.Word w) = true
is_a_word _ = false

abbrev pub is_a_number : Token → Bool
is_a_number (Token.Number n) = true
is_a_number _ = false

-- the bytes of a word, and none of another token
abbrev pub word_of : Token → List ℕ
word_of (Token.Word w) = w
word_of _ = []

-- the name that a line declares
abbrev pub name_in : List Token → List ℕ
name_in (first ∷ name ∷ ts) = word_of name
name_in _ = []

-- a number from low to high
abbrev pub is_within : ℕ → ℕ → Token → Bool
is_within low high (Token.Number (pos n)) = nat_le low n && nat_le n high
is_within low high _ = false

-- the number, if a token is one from 0 to high; else 0
abbrev pub number_up_to : ℕ → Token → ℕ
number_up_to high (Token.Number (pos n)) = if nat_le n high then n else 0
number_up_to high _ = 0

-- ---- names
-- places are counted from 0, below 65,536
abbrev pub small : ℕ → Option ℕ
small n = if nat_lt n 65536 then Some n else None

-- the entity of a name, by its place
abbrev pub entity_at : List EntityDef → List ℕ → Option ℕ
entity_at m w = option_and_then small (position (λ e. bytes_eq e.name w) m)

-- the column of a name, by its place
abbrev pub column_at : List ColumnDef → List ℕ → Option ℕ
column_at ds w = option_and_then small (position (λ d. bytes_eq d.name w) ds)
