-- The lines of a printed text, and their tokens.
use Rattle.std.proofs.Common.{◌≡◌, ℕ, ◌+◌, Bool, true, false, cond, ◌&&◌, ◌||◌, ◌==◌, nat_le, nat_lt, List, [], ◌∷◌, ◌++◌, length, map, codes, flat_map, Some, Ok, refl, sym, ap, ◌∙◌, append_assoc, arith}
use Rattle.std.proofs.lemmas.List.{append-nil}
use Rattle.std.specs.List.{list_all}
use Rattle.std.proofs.lemmas.Bool.{and_parts, and_from}
use Rattle.std.proofs.lemmas.Bool.Decides.{nat_tests}
use Rattle.hib_base.specs.Fits.{is_printable}
use Rattle.hib_lex.specs.Tokens.{space, hash, is_letter, is_word_byte, is_word, is_blank, tokens_from, start}
use Rattle.hib_lex.specs.Lines.{line_feed, lines_of, with_line, lexing, lex_of}
use Rattle.hib_lex.specs.declared.lexer.Token.{Token}
use Rattle.hib_lex.specs.declared.lines.Line.{Line}
use Rattle.hib_lex.specs.declared.lines.Lines.{Lines}
use Rattle.hib_print.specs.Spelling.{token_text, gap, is_left, text_from, text_of, lines_text}
use Rattle.hib_texts.specs.Texts.{escaped}
use Rattle.hib_reads_back.proofs.Bytes.{word_printable}
use Rattle.hib_reads_back.proofs.Numbers.{number_printable}
use Rattle.hib_reads_back.proofs.Scanned.{is_spelt, all_joined, word, scanned}

-- ---- printable bytes
word_shown : (bs : List ℕ) → list_all is_word_byte bs ≡ true → list_all is_printable bs ≡ true
word_shown [] h = refl
word_shown (b ∷ bs) h =
    let parts : (is_word_byte b ≡ true) × (list_all is_word_byte bs ≡ true) = and_parts (is_word_byte b) (list_all is_word_byte bs) h in
    and_from (is_printable b) (list_all is_printable bs) (word_printable b parts.0) (word_shown bs parts.1)

escaped_shown : (b : ℕ) → is_printable b ≡ true → list_all is_printable (escaped b) ≡ true
escaped_shown b h = by_test ((b == 34) || (b == 92))
  where
    by_test : (t : Bool) → list_all is_printable (cond t (92 ∷ b ∷ []) (b ∷ [])) ≡ true
    by_test true = rw h refl
    by_test false = rw h refl

text_shown : (t : List ℕ) → list_all is_printable t ≡ true → list_all is_printable (flat_map escaped t) ≡ true
text_shown [] h = refl
text_shown (b ∷ t) h =
    let parts : (is_printable b ≡ true) × (list_all is_printable t ≡ true) = and_parts (is_printable b) (list_all is_printable t) h in
    all_joined is_printable (escaped b) (flat_map escaped t) (escaped_shown b parts.0) (text_shown t parts.1)

token_shown : (t : Token) → is_spelt t ≡ true → list_all is_printable (token_text t) ≡ true
token_shown (Token.Word w) h = word_shown w (word w h).bytes
token_shown (Token.Path v w) h =
    let both : (is_word v ≡ true) × (is_word w ≡ true) = and_parts (is_word v) (is_word w) h in
    all_joined is_printable (v ++ codes ".") w (all_joined is_printable v (codes ".") (word_shown v (word v both.0).bytes) refl) (word_shown w (word w both.1).bytes)
token_shown (Token.Number z) h = number_printable z h
token_shown (Token.Quoted t) h =
    let shown : list_all is_printable t ≡ true = (and_parts (nat_le (length t) 200) (list_all is_printable t) h).1 in
    all_joined is_printable (flat_map escaped t) (codes "\"") (text_shown t shown) refl
token_shown Token.Left h = refl
token_shown Token.Right h = refl

gap_shown : (g : Bool) (t : Token) → list_all is_printable (gap g t) ≡ true
gap_shown true (Token.Word w) = refl
gap_shown true (Token.Path v w) = refl
gap_shown true (Token.Number z) = refl
gap_shown true (Token.Quoted t) = refl
gap_shown true Token.Left = refl
gap_shown true Token.Right = refl
gap_shown false (Token.Word w) = refl
gap_shown false (Token.Path v w) = refl
gap_shown false (Token.Number z) = refl
gap_shown false (Token.Quoted t) = refl
gap_shown false Token.Left = refl
gap_shown false Token.Right = refl

tokens_shown : (g : Bool) (ts : List Token) → list_all is_spelt ts ≡ true → list_all is_printable (text_from g ts) ≡ true
tokens_shown g [] h = refl
tokens_shown g (t ∷ ts) h =
    let parts : (is_spelt t ≡ true) × (list_all is_spelt ts ≡ true) = and_parts (is_spelt t) (list_all is_spelt ts) h in
    all_joined is_printable (gap g t ++ token_text t) (text_from (is_left t) ts)
    (all_joined is_printable (gap g t) (token_text t) (gap_shown g t) (token_shown t parts.0)) (tokens_shown (is_left t) ts parts.1)

-- ---- a line
-- it begins with a word
abbrev pub is_line : List Token → Bool
is_line (Token.Word w ∷ ts) = is_word w && list_all is_spelt ts
is_line _ = false

abbrev pub is_short : List Token → Bool
is_short ts = nat_le (length (text_of ts)) 4096

letter_begins : (b : ℕ) (bs : List ℕ) → is_letter b ≡ true → is_blank (b ∷ bs) ≡ false
letter_begins b bs h =
    let no_space : (b == space) ≡ false = grind (arith, nat_tests) in
    let no_hash : (b == hash) ≡ false = grind (arith, nat_tests) in
    rw (no_space, no_hash) refl

word_begins : (w rest : List ℕ) → is_word w ≡ true → is_blank (w ++ rest) ≡ false
word_begins [] rest h = absurd (cc)
word_begins (b ∷ w) rest h = letter_begins b (w ++ rest) (and_parts (is_letter b) (nat_lt (length w) 32 && list_all is_word_byte w) h).0

line_begins : (ts : List Token) → is_line ts ≡ true → is_blank (text_of ts) ≡ false
line_begins [] h = absurd (cc)
line_begins (Token.Word w ∷ ts) h = word_begins w (text_from false ts) (and_parts (is_word w) (list_all is_spelt ts) h).0
line_begins (_ ∷ ts) h = absurd (cc)

pub line_tokens : (ts : List Token) → is_line ts ≡ true → list_all is_spelt ts ≡ true
line_tokens [] h = absurd (cc)
line_tokens (Token.Word w ∷ ts) h = h
line_tokens (_ ∷ ts) h = absurd (cc)

-- the lines so far, with one more
abbrev with_tokens : Lines → List Token → Lines
with_tokens done ts = record { lines = done.lines ++ record { line = done.count + 1; tokens = ts } ∷ []; count = done.count + 1 }

line_lexed : (done : Lines) (ts : List Token) → is_line ts ≡ true → is_short ts ≡ true → with_line done (text_of ts) ≡ Ok (with_tokens done ts)
line_lexed done ts h g =
    let spelt : list_all is_spelt ts ≡ true = line_tokens ts h in
    let shown : list_all is_printable (text_of ts) ≡ true = tokens_shown true ts spelt in
    let told : tokens_from (Some start) (text_of ts) ≡ Some ts = scanned ts spelt in
    rw (shown, g, line_begins ts h, told) refl

-- ---- the lines
no_feed : (b : ℕ) → is_printable b ≡ true → (b == line_feed) ≡ false
no_feed b h = grind (arith, nat_tests)

line_cut : (bs rest : List ℕ) → list_all is_printable bs ≡ true → lines_of (bs ++ 10 ∷ rest) ≡ bs ∷ lines_of rest
line_cut [] rest h = refl
line_cut (b ∷ bs) rest h =
    let parts : (is_printable b ≡ true) × (list_all is_printable bs ≡ true) = and_parts (is_printable b) (list_all is_printable bs) h in
    rw (no_feed b parts.0, line_cut bs rest parts.1) refl

lines_cut : (ls : List (List Token)) → list_all is_line ls ≡ true → lines_of (lines_text ls) ≡ map (λ ts. text_of ts) ls
lines_cut [] h = refl
lines_cut (ts ∷ ls) h =
    let parts : (is_line ts ≡ true) × (list_all is_line ls ≡ true) = and_parts (is_line ts) (list_all is_line ls) h in
    let shown : list_all is_printable (text_of ts) ≡ true = tokens_shown true ts (line_tokens ts parts.0) in
    ap (λ x. lines_of x) (append_assoc (text_of ts) (codes "\n") (lines_text ls))
    ∙ (line_cut (text_of ts) (lines_text ls) shown ∙ ap (λ x. text_of ts ∷ x) (lines_cut ls parts.1))

-- lines with their numbers, after n others
abbrev pub numbered : ℕ → List (List Token) → List Line
numbered n [] = []
numbered n (ts ∷ ls) = record { line = n + 1; tokens = ts } ∷ numbered (n + 1) ls

-- how many lines there are with some more
abbrev pub counted : ℕ → List (List Token) → ℕ
counted n [] = n
counted n (ts ∷ ls) = counted (n + 1) ls

lexed_on : (done : Lines) (ls : List (List Token)) → list_all is_line ls ≡ true → list_all is_short ls ≡ true →
    lexing (Ok done) (map (λ ts. text_of ts) ls) ≡ Ok (record { lines = done.lines ++ numbered done.count ls; count = counted done.count ls })
lexed_on done [] h g = ap (λ x. Ok (record { lines = x; count = done.count })) (sym (append-nil done.lines))
lexed_on done (ts ∷ ls) h g =
    let line : (is_line ts ≡ true) × (list_all is_line ls ≡ true) = and_parts (is_line ts) (list_all is_line ls) h in
    let short : (is_short ts ≡ true) × (list_all is_short ls ≡ true) = and_parts (is_short ts) (list_all is_short ls) g in
    let more : Lines = with_tokens done ts in
    let first : with_line done (text_of ts) ≡ Ok more = line_lexed done ts line.0 short.0 in
    ap (λ x. lexing x (map (λ us. text_of us) ls)) first
    ∙ (lexed_on more ls line.1 short.1 ∙ ap (λ x. Ok (record { lines = x; count = counted (done.count + 1) ls })) (append_assoc done.lines (record { line = done.count + 1; tokens = ts } ∷ []) (numbered (done.count + 1) ls)))

pub lexed : (ls : List (List Token)) → list_all is_line ls ≡ true → list_all is_short ls ≡ true → lex_of (lines_text ls) ≡ Ok (record { lines = numbered 0 ls; count = counted 0 ls })
lexed ls h g = ap (λ x. lexing (Ok (record { lines = []; count = 0 })) x) (lines_cut ls h) ∙ lexed_on (record { lines = []; count = 0 }) ls h g
