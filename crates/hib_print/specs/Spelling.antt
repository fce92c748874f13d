-- The text of tokens: a space stands between two of them, but none after an opening parenthesis and none before a closing one.
use Rattle.std.specs.Prelude.{ℕ, Bool, true, false, if◌then◌else◌, List, [], ◌∷◌, ◌++◌, codes, flat_map}
use Rattle.std.specs.Fmt.{signed_decimal}
use Rattle.hib_lex.specs.declared.lexer.Token.{Token}
use Rattle.hib_texts.specs.Texts.{quoted}

abbrev pub token_text : Token → List ℕ
token_text (Token.Word w) = w
token_text (Token.Path v w) = v ++ codes "." ++ w
token_text (Token.Number n) = signed_decimal n
token_text (Token.Quoted t) = quoted t
token_text Token.Left = codes "("
token_text Token.Right = codes ")"

-- glued: the token before, if any, is an opening parenthesis
abbrev pub gap : Bool → Token → List ℕ
gap glued Token.Right = []
gap glued _ = if glued then [] else codes " "

abbrev pub is_left : Token → Bool
is_left Token.Left = true
is_left _ = false

abbrev pub text_from : Bool → List Token → List ℕ
text_from glued [] = []
text_from glued (t ∷ ts) = gap glued t ++ token_text t ++ text_from (is_left t) ts

abbrev pub text_of : List Token → List ℕ
text_of ts = text_from true ts

-- lines, each with its end
abbrev pub lines_text : List (List Token) → List ℕ
lines_text ls = flat_map (λ ts. text_of ts ++ codes "\n") ls
