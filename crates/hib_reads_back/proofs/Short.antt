-- How long printed lines are.
use Rattle.std.proofs.Common.{◌≡◌, ℕ, suc, ◌+◌, ◌*◌, ◌≤◌, ◌<◌, ◌^◌, Bool, true, false, cond, ◌&&◌, ◌||◌, ◌==◌, nat_le, nat_lt, List, [], ◌∷◌, ◌++◌, length, codes, flat_map, length-append, arith}
use Rattle.std.specs.Prelude.{pos, negsuc}
use Rattle.std.specs.Fmt.{decimal}
use Rattle.std.specs.List.{list_all}
use Rattle.std.proofs.lemmas.Bool.{and_parts, leb-true, ltb-true}
use Rattle.std.proofs.lemmas.Fmt.{length-decimal-le}
use Rattle.hib_base.specs.Fits.{is_printable}
use Rattle.hib_lex.specs.Tokens.{is_letter, is_word_byte, is_word}
use Rattle.hib_lex.specs.declared.lexer.Token.{Token}
use Rattle.hib_print.specs.Spelling.{token_text, gap, is_left, text_from}
use Rattle.hib_texts.specs.Texts.{escaped, quoted}
use Rattle.hib_reads_back.proofs.Scanned.{is_spelt}

-- the most bytes of a token's text
abbrev pub most : Token → ℕ
most (Token.Word w) = 32
most (Token.Path v w) = 65
most (Token.Number n) = 20
most (Token.Quoted t) = 402
most Token.Left = 1
most Token.Right = 1

-- and of tokens, each with a space
abbrev pub most_of : List Token → ℕ
most_of [] = 0
most_of (t ∷ ts) = (1 + most t) + most_of ts

word_size : (w : List ℕ) → is_word w ≡ true → length w ≤ 32
word_size [] h = omega arith
word_size (b ∷ bs) h =
    let parts : (is_letter b ≡ true) × ((nat_lt (length bs) 32 && list_all is_word_byte bs) ≡ true) = and_parts (is_letter b) (nat_lt (length bs) 32 && list_all is_word_byte bs) h in
    let few : length bs < 32 = ltb-true (length bs) 32 (and_parts (nat_lt (length bs) 32) (list_all is_word_byte bs) parts.1).0 in
    omega arith

escaped_size : (b : ℕ) → length (escaped b) ≤ 2
escaped_size b = by_test ((b == 34) || (b == 92))
  where
    by_test : (t : Bool) → length (cond t (92 ∷ b ∷ []) (b ∷ [])) ≤ 2
    by_test true = omega arith
    by_test false = omega arith

text_size : (t : List ℕ) → length (flat_map escaped t) ≤ 2 * length t
text_size [] = omega arith
text_size (b ∷ t) =
    let one : length (escaped b) ≤ 2 = escaped_size b in
    let rest : length (flat_map escaped t) ≤ 2 * length t = text_size t in
    rw (length-append (escaped b) (flat_map escaped t)) (omega arith)

quoted_size : (t : List ℕ) → length t ≤ 200 → length (quoted t) ≤ 402
quoted_size t h =
    let inner : length (flat_map escaped t) ≤ 2 * length t = text_size t in
    omega (arith, length-append (codes "\"" ++ flat_map escaped t) (codes "\""), length-append (codes "\"") (flat_map escaped t))

token_size : (t : Token) → is_spelt t ≡ true → length (token_text t) ≤ most t
token_size (Token.Word w) h = word_size w h
token_size (Token.Path v w) h =
    let both : (is_word v ≡ true) × (is_word w ≡ true) = and_parts (is_word v) (is_word w) h in
    let first : length v ≤ 32 = word_size v both.0 in
    let second : length w ≤ 32 = word_size w both.1 in
    omega (arith, length-append (v ++ codes ".") w, length-append v (codes "."))
token_size (Token.Number (pos n)) h =
    let low : n < 2 ^ 63 = ltb-true n (2 ^ 63) h in
    length-decimal-le 20 n (omega arith) (omega arith) (omega arith)
token_size (Token.Number (negsuc n)) h =
    let low : n < 2 ^ 63 = ltb-true n (2 ^ 63) h in
    let size : length (decimal (suc n)) ≤ 19 = length-decimal-le 19 (suc n) (omega arith) (omega arith) (omega arith) in
    omega arith
token_size (Token.Quoted t) h = quoted_size t (leb-true (length t) 200 (and_parts (nat_le (length t) 200) (list_all is_printable t) h).0)
token_size Token.Left h = omega arith
token_size Token.Right h = omega arith

gap_size : (g : Bool) (t : Token) → length (gap g t) ≤ 1
gap_size true (Token.Word w) = omega arith
gap_size true (Token.Path v w) = omega arith
gap_size true (Token.Number z) = omega arith
gap_size true (Token.Quoted t) = omega arith
gap_size true Token.Left = omega arith
gap_size true Token.Right = omega arith
gap_size false (Token.Word w) = omega arith
gap_size false (Token.Path v w) = omega arith
gap_size false (Token.Number z) = omega arith
gap_size false (Token.Quoted t) = omega arith
gap_size false Token.Left = omega arith
gap_size false Token.Right = omega arith

pub text_short : (g : Bool) (ts : List Token) → list_all is_spelt ts ≡ true → length (text_from g ts) ≤ most_of ts
text_short g [] h = omega arith
text_short g (t ∷ ts) h =
    let parts : (is_spelt t ≡ true) × (list_all is_spelt ts ≡ true) = and_parts (is_spelt t) (list_all is_spelt ts) h in
    let one : length (token_text t) ≤ most t = token_size t parts.0 in
    let space : length (gap g t) ≤ 1 = gap_size g t in
    let rest : length (text_from (is_left t) ts) ≤ most_of ts = text_short (is_left t) ts parts.1 in
    omega (arith, length-append (gap g t ++ token_text t) (text_from (is_left t) ts), length-append (gap g t) (token_text t))
