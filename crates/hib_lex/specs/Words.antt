-- Tokens that are a given word, and lines that begin with one.
use Rattle.std.specs.Prelude.{ℕ, Bool, false, List, [], ◌∷◌, bytes_eq}
use Rattle.hib_lex.specs.declared.lexer.Token.{Token}

abbrev pub is_the_word : List ℕ → Token → Bool
is_the_word w (Token.Word v) = bytes_eq v w
is_the_word w _ = false

-- the first word says which line it is
abbrev pub begins : List ℕ → List Token → Bool
begins w [] = false
begins w (t ∷ ts) = is_the_word w t
