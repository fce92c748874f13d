-- The scan of printed tokens.
use Rattle.std.proofs.Common.{◌≡◌, ℕ, ◌+◌, ◌<◌, Bool, true, false, cond, ◌&&◌, ◌||◌, ◌==◌, nat_lt, nat_le, List, [], ◌∷◌, ◌++◌, length, take, drop, codes, flat_map, position, Option, Some, None, option_map, option_and_then, refl, sym, ap, ◌∙◌, append_assoc, length-append, arith}
use Rattle.std.specs.Fmt.{signed_decimal}
use Rattle.std.specs.List.{list_all, position_or_len}
use Rattle.std.specs.Prelude.{ℤ}
use Rattle.std.proofs.Math.Seq.{take-append_seam, drop-append_seam}
use Rattle.std.proofs.lemmas.Bool.{and_parts, and_from, or_parts, and_right, lt-ltb}
use Rattle.hib_base.specs.Fits.{is_printable, is_text}
use Rattle.hib_lex.specs.Tokens.{dot, is_letter, is_word_byte, is_word, path_at, path_of, number_of, bare_of, scan_at, step_between, step_bare, step_quoted, step_escaped, tokens_from, start}
use Rattle.hib_lex.specs.declared.lexer.Token.{Token}
use Rattle.hib_print.specs.Spelling.{token_text, gap, is_left, text_from}
use Rattle.hib_texts.specs.Texts.{escaped, quoted}
use Rattle.hib_reads_back.proofs.Bytes.{is_bare, plain, word_bare, letter_word, letter_no_digit, letter_no_dash, letter_no_zero, word_no_dot}
use Rattle.hib_reads_back.proofs.Numbers.{is_i64, number_no_word, number_back, number_bare, number_some}

-- ---- where no token has begun
abbrev between : List Token → List ℕ → Option (List Token)
between done rest = tokens_from (scan_at done start.place) rest

-- ---- bytes that are no ends
-- after some bytes of a word, a path or a number, and one more
abbrev behind_byte : List Token → List ℕ → ℕ → List ℕ → Option (List Token)
behind_byte done acc b rest = tokens_from (step_bare done acc b) rest

-- and after others
abbrev behind_bytes : List Token → List ℕ → ℕ → List ℕ → List ℕ → Option (List Token)
behind_bytes done acc b [] rest = behind_byte done acc b rest
behind_bytes done acc b (c ∷ cs) rest = behind_bytes done (acc ++ b ∷ []) c cs rest

abbrev behind_word : List Token → List ℕ → List ℕ → Option (List Token)
behind_word done [] rest = None
behind_word done (b ∷ bs) rest = behind_bytes done [] b bs rest

byte_read : (done : List Token) (acc : List ℕ) (b c : ℕ) (rest : List ℕ) → is_bare b ≡ true → behind_byte done acc b (c ∷ rest) ≡ behind_byte done (acc ++ b ∷ []) c rest
byte_read done acc b c rest h = let p = plain b h in rw (p.no_space, p.no_left, p.no_right) refl

bytes_read : (done : List Token) (acc : List ℕ) (b : ℕ) (cs rest : List ℕ) → list_all is_bare (b ∷ cs) ≡ true → behind_byte done acc b (cs ++ rest) ≡ behind_bytes done acc b cs rest
bytes_read done acc b [] rest h = refl
bytes_read done acc b (c ∷ cs) rest h =
    let parts : (is_bare b ≡ true) × (list_all is_bare (c ∷ cs) ≡ true) = and_parts (is_bare b) (list_all is_bare (c ∷ cs)) h in
    byte_read done acc b c (cs ++ rest) parts.0 ∙ bytes_read done (acc ++ b ∷ []) c cs rest parts.1

begun : (done : List Token) (b : ℕ) (rest : List ℕ) → is_bare b ≡ true → tokens_from (step_between done b) rest ≡ behind_byte done [] b rest
begun done b rest h = let p = plain b h in rw (p.no_space, p.no_left, p.no_right, p.no_mark) refl

word_begun : (done : List Token) (w rest : List ℕ) → list_all is_bare w ≡ true → 0 < length w → between done (w ++ rest) ≡ behind_word done w rest
word_begun done [] rest h l = absurd (omega (arith, l))
word_begun done (b ∷ bs) rest h l = begun done b (bs ++ rest) (and_parts (is_bare b) (list_all is_bare bs) h).0 ∙ bytes_read done [] b bs rest h

-- what ends it
byte_space : (done : List Token) (acc : List ℕ) (b : ℕ) (t : Token) (rest : List ℕ) → is_bare b ≡ true → bare_of (acc ++ b ∷ []) ≡ Some t → behind_byte done acc b (32 ∷ rest) ≡ between (done ++ t ∷ []) rest
byte_space done acc b t rest h e = let p = plain b h in rw (p.no_space, p.no_left, p.no_right) (ap (λ o. tokens_from (option_and_then (λ d. step_between d 32) (option_map (λ x. done ++ x ∷ []) o)) rest) e)

byte_right : (done : List Token) (acc : List ℕ) (b : ℕ) (t : Token) (rest : List ℕ) → is_bare b ≡ true → bare_of (acc ++ b ∷ []) ≡ Some t →
    behind_byte done acc b (41 ∷ rest) ≡ between ((done ++ t ∷ []) ++ Token.Right ∷ []) rest
byte_right done acc b t rest h e = let p = plain b h in rw (p.no_space, p.no_left, p.no_right) (ap (λ o. tokens_from (option_and_then (λ d. step_between d 41) (option_map (λ x. done ++ x ∷ []) o)) rest) e)

byte_end : (done : List Token) (acc : List ℕ) (b : ℕ) (t : Token) → is_bare b ≡ true → bare_of (acc ++ b ∷ []) ≡ Some t → behind_byte done acc b [] ≡ Some (done ++ t ∷ [])
byte_end done acc b t h e = let p = plain b h in rw (p.no_space, p.no_left, p.no_right) (ap (λ o. option_map (λ x. done ++ x ∷ []) o) e)

together : (acc : List ℕ) (b c : ℕ) (cs : List ℕ) (t : Token) → bare_of (acc ++ b ∷ c ∷ cs) ≡ Some t → bare_of ((acc ++ b ∷ []) ++ c ∷ cs) ≡ Some t
together acc b c cs t e = ap (λ w. bare_of w) (append_assoc acc (b ∷ []) (c ∷ cs)) ∙ e

bytes_space : (done : List Token) (acc : List ℕ) (b : ℕ) (cs : List ℕ) (t : Token) (rest : List ℕ) → list_all is_bare (b ∷ cs) ≡ true → bare_of (acc ++ b ∷ cs) ≡ Some t →
    behind_bytes done acc b cs (32 ∷ rest) ≡ between (done ++ t ∷ []) rest
bytes_space done acc b [] t rest h e = byte_space done acc b t rest (and_parts (is_bare b) true h).0 e
bytes_space done acc b (c ∷ cs) t rest h e = bytes_space done (acc ++ b ∷ []) c cs t rest (and_parts (is_bare b) (list_all is_bare (c ∷ cs)) h).1 (together acc b c cs t e)

bytes_right : (done : List Token) (acc : List ℕ) (b : ℕ) (cs : List ℕ) (t : Token) (rest : List ℕ) → list_all is_bare (b ∷ cs) ≡ true → bare_of (acc ++ b ∷ cs) ≡ Some t →
    behind_bytes done acc b cs (41 ∷ rest) ≡ between ((done ++ t ∷ []) ++ Token.Right ∷ []) rest
bytes_right done acc b [] t rest h e = byte_right done acc b t rest (and_parts (is_bare b) true h).0 e
bytes_right done acc b (c ∷ cs) t rest h e = bytes_right done (acc ++ b ∷ []) c cs t rest (and_parts (is_bare b) (list_all is_bare (c ∷ cs)) h).1 (together acc b c cs t e)

bytes_end : (done : List Token) (acc : List ℕ) (b : ℕ) (cs : List ℕ) (t : Token) → list_all is_bare (b ∷ cs) ≡ true → bare_of (acc ++ b ∷ cs) ≡ Some t → behind_bytes done acc b cs [] ≡ Some (done ++ t ∷ [])
bytes_end done acc b [] t h e = byte_end done acc b t (and_parts (is_bare b) true h).0 e
bytes_end done acc b (c ∷ cs) t h e = bytes_end done (acc ++ b ∷ []) c cs t (and_parts (is_bare b) (list_all is_bare (c ∷ cs)) h).1 (together acc b c cs t e)

-- ---- quoted texts
-- within a text, after some bytes and one more
abbrev within : List Token → List ℕ → ℕ → List ℕ → Option (List Token)
within done acc b rest = cond ((b == 34) || (b == 92)) (tokens_from (step_escaped done acc b) rest) (tokens_from (step_quoted done acc b) rest)

abbrev withins : List Token → List ℕ → ℕ → List ℕ → List ℕ → Option (List Token)
withins done acc b [] rest = within done acc b rest
withins done acc b (c ∷ cs) rest = withins done (acc ++ b ∷ []) c cs rest

text_begun : (done : List Token) (b : ℕ) (rest : List ℕ) → between done (34 ∷ (escaped b ++ rest)) ≡ within done [] b rest
text_begun done b rest = by_test ((b == 34) || (b == 92))
  where
    by_test : (t : Bool) → between done (34 ∷ (cond t (92 ∷ b ∷ []) (b ∷ []) ++ rest)) ≡ cond t (tokens_from (step_escaped done [] b) rest) (tokens_from (step_quoted done [] b) rest)
    by_test true = refl
    by_test false = refl

text_on : (done : List Token) (acc : List ℕ) (b c : ℕ) (rest : List ℕ) → within done acc b (escaped c ++ rest) ≡ within done (acc ++ b ∷ []) c rest
text_on done acc b c rest = by_tests ((b == 34) || (b == 92)) refl ((c == 34) || (c == 92))
  where
    by_tests : (t : Bool) → ((b == 34) || (b == 92)) ≡ t → (u : Bool) →
        cond t (tokens_from (step_escaped done acc b) (cond u (92 ∷ c ∷ []) (c ∷ []) ++ rest)) (tokens_from (step_quoted done acc b) (cond u (92 ∷ c ∷ []) (c ∷ []) ++ rest)) ≡
        cond u (tokens_from (step_escaped done (acc ++ b ∷ []) c) rest) (tokens_from (step_quoted done (acc ++ b ∷ []) c) rest)
    by_tests true e true = rw e refl
    by_tests true e false = rw e refl
    by_tests false e true = let parts : ((b == 34) ≡ false) × ((b == 92) ≡ false) = or_parts (b == 34) (b == 92) e in rw (parts.1, parts.0) refl
    by_tests false e false = let parts : ((b == 34) ≡ false) × ((b == 92) ≡ false) = or_parts (b == 34) (b == 92) e in rw (parts.1, parts.0) refl

texts_on : (done : List Token) (acc : List ℕ) (b : ℕ) (cs rest : List ℕ) → within done acc b (flat_map escaped cs ++ rest) ≡ withins done acc b cs rest
texts_on done acc b [] rest = refl
texts_on done acc b (c ∷ cs) rest =
    ap (λ x. within done acc b x) (append_assoc (escaped c) (flat_map escaped cs) rest) ∙ (text_on done acc b c (flat_map escaped cs ++ rest) ∙ texts_on done (acc ++ b ∷ []) c cs rest)

text_closed : (done : List Token) (acc : List ℕ) (b : ℕ) (rest : List ℕ) → within done acc b (34 ∷ rest) ≡ tokens_from (step_quoted done (acc ++ b ∷ []) 34) rest
text_closed done acc b rest = by_test ((b == 34) || (b == 92)) refl
  where
    by_test : (t : Bool) → ((b == 34) || (b == 92)) ≡ t → cond t (tokens_from (step_escaped done acc b) (34 ∷ rest)) (tokens_from (step_quoted done acc b) (34 ∷ rest)) ≡ tokens_from (step_quoted done (acc ++ b ∷ []) 34) rest
    by_test true e = rw e refl
    by_test false e = let parts : ((b == 34) ≡ false) × ((b == 92) ≡ false) = or_parts (b == 34) (b == 92) e in rw (parts.1, parts.0) refl

texts_closed : (done : List Token) (acc : List ℕ) (b : ℕ) (cs rest : List ℕ) → withins done acc b cs (34 ∷ rest) ≡ tokens_from (step_quoted done (acc ++ b ∷ cs) 34) rest
texts_closed done acc b [] rest = text_closed done acc b rest
texts_closed done acc b (c ∷ cs) rest = texts_closed done (acc ++ b ∷ []) c cs rest ∙ ap (λ x. tokens_from (step_quoted done x 34) rest) (append_assoc acc (b ∷ []) (c ∷ cs))

quoted_read : (done : List Token) (t rest : List ℕ) → between done (quoted t ++ rest) ≡ tokens_from (step_quoted done t 34) rest
quoted_read done [] rest = refl
quoted_read done (b ∷ bs) rest =
    ap (λ x. between done (34 ∷ x)) (append_assoc (escaped b ++ flat_map escaped bs) (codes "\"") rest ∙ append_assoc (escaped b) (flat_map escaped bs) (34 ∷ rest))
    ∙ (text_begun done b (flat_map escaped bs ++ 34 ∷ rest) ∙ (texts_on done [] b bs (34 ∷ rest) ∙ texts_closed done [] b bs rest))

-- ---- tokens that may be printed
abbrev pub is_spelt : Token → Bool
is_spelt (Token.Word w) = is_word w
is_spelt (Token.Path v w) = is_word v && is_word w
is_spelt (Token.Number n) = is_i64 n
is_spelt (Token.Quoted t) = is_text t
is_spelt Token.Left = true
is_spelt Token.Right = true

-- ---- words and paths
pub record Word (w : List ℕ) : Type 0 where
  pub first : ℕ
  pub others : List ℕ
  pub same : w ≡ first ∷ others
  pub letter : is_letter first ≡ true
  pub bytes : list_all is_word_byte w ≡ true

pub word : (w : List ℕ) → is_word w ≡ true → Word w
word [] h = absurd (cc)
word (b ∷ bs) h =
    let parts : (is_letter b ≡ true) × ((nat_lt (length bs) 32 && list_all is_word_byte bs) ≡ true) = and_parts (is_letter b) (nat_lt (length bs) 32 && list_all is_word_byte bs) h in
    let rest : (nat_lt (length bs) 32 ≡ true) × (list_all is_word_byte bs ≡ true) = and_parts (nat_lt (length bs) 32) (list_all is_word_byte bs) parts.1 in
    record { first = b; others = bs; same = refl; letter = parts.0; bytes = and_from (is_word_byte b) (list_all is_word_byte bs) (letter_word b parts.0) rest.1 }

all_bare : (ws : List ℕ) → list_all is_word_byte ws ≡ true → list_all is_bare ws ≡ true
all_bare [] h = refl
all_bare (b ∷ bs) h =
    let parts : (is_word_byte b ≡ true) × (list_all is_word_byte bs ≡ true) = and_parts (is_word_byte b) (list_all is_word_byte bs) h in
    and_from (is_bare b) (list_all is_bare bs) (word_bare b parts.0) (all_bare bs parts.1)

pub all_joined : {A : Type 0} (p : A → Bool) (xs ys : List A) → list_all p xs ≡ true → list_all p ys ≡ true → list_all p (xs ++ ys) ≡ true
all_joined p [] ys h g = g
all_joined p (x ∷ xs) ys h g =
    let both : (p x ≡ true) × (list_all p xs ≡ true) = and_parts (p x) (list_all p xs) h in
    and_from (p x) (list_all p (xs ++ ys)) both.0 (all_joined p xs ys both.1 g)

-- a dot is no byte of a word
dotted : (v w : List ℕ) → list_all is_word_byte ((v ++ codes ".") ++ w) ≡ false
dotted [] w = refl
dotted (b ∷ v) w = and_right (is_word_byte b) (list_all is_word_byte ((v ++ codes ".") ++ w)) (dotted v w)

path_no_word : (v w : List ℕ) → 0 < length v → is_word ((v ++ codes ".") ++ w) ≡ false
path_no_word [] w h = absurd (omega (arith, h))
path_no_word (b ∷ v) w h =
    let rest = (v ++ codes ".") ++ w in
    and_right (is_letter b) (nat_lt (length rest) 32 && list_all is_word_byte rest) (and_right (nat_lt (length rest) 32) (list_all is_word_byte rest) (dotted v w))

letter_no_number : (b : ℕ) (bs : List ℕ) → is_letter b ≡ true → number_of (b ∷ bs) ≡ None
letter_no_number b [] h = rw (letter_no_dash b h, letter_no_zero b h, letter_no_digit b h) refl
letter_no_number b (c ∷ bs) h = rw (letter_no_dash b h, letter_no_zero b h, letter_no_digit b h) refl

path_no_number : (v w : List ℕ) → is_word v ≡ true → number_of ((v ++ codes ".") ++ w) ≡ None
path_no_number [] w h = absurd (cc)
path_no_number (b ∷ v) w h = letter_no_number b ((v ++ codes ".") ++ w) (and_parts (is_letter b) (nat_lt (length v) 32 && list_all is_word_byte v) h).0

dot_place : (v w : List ℕ) → list_all is_word_byte v ≡ true → position_or_len (λ b. b == dot) ((v ++ codes ".") ++ w) ≡ length v
dot_place [] w h = refl
dot_place (b ∷ v) w h =
    let parts : (is_word_byte b ≡ true) × (list_all is_word_byte v ≡ true) = and_parts (is_word_byte b) (list_all is_word_byte v) h in
    let rest : position_or_len (λ c. c == dot) ((v ++ codes ".") ++ w) ≡ length v = dot_place v w parts.1 in
    rw (word_no_dot b parts.0, rest) (omega arith)

dotted_length : (v w : List ℕ) → length ((v ++ codes ".") ++ w) ≡ length v + (1 + length w)
dotted_length v w = rw (length-append (v ++ codes ".") w, length-append v (codes ".")) (omega arith)

dot_found : (v w : List ℕ) → list_all is_word_byte v ≡ true → position (λ b. b == dot) ((v ++ codes ".") ++ w) ≡ Some (length v)
dot_found v w h = rw (dot_place v w h, dotted_length v w, lt-ltb (length v) (length v + (1 + length w)) (omega arith)) refl

before_dot : (v w : List ℕ) → take (length v) ((v ++ codes ".") ++ w) ≡ v
before_dot v w = ap (λ x. take (length v) x) (append_assoc v (codes ".") w) ∙ take-append_seam v (codes "." ++ w)

behind_dot : (v w : List ℕ) → drop (length v + 1) ((v ++ codes ".") ++ w) ≡ w
behind_dot v w = ap (λ n. drop n ((v ++ codes ".") ++ w)) (sym (length-append v (codes "."))) ∙ drop-append_seam (v ++ codes ".") w

path_back : (v w : List ℕ) → is_word v ≡ true → is_word w ≡ true → path_of ((v ++ codes ".") ++ w) ≡ Some (Token.Path v w)
path_back v w h g =
    let there : path_of ((v ++ codes ".") ++ w) ≡ path_at ((v ++ codes ".") ++ w) (Some (length v)) = ap (λ i. path_at ((v ++ codes ".") ++ w) i) (dot_found v w (word v h).bytes) in
    there ∙ rw (before_dot v w, behind_dot v w, h, g) refl

some_bytes : (w : List ℕ) → is_word w ≡ true → 0 < length w
some_bytes [] h = absurd (cc)
some_bytes (b ∷ w) h = omega arith

-- ---- tokens without marks
record Bare (t : Token) : Type 0 where
  bytes : list_all is_bare (token_text t) ≡ true
  some : 0 < length (token_text t)
  back : bare_of (token_text t) ≡ Some t

bare_word : (w : List ℕ) → is_word w ≡ true → Bare (Token.Word w)
bare_word w h = record { bytes = all_bare w (word w h).bytes; some = some_bytes w h; back = rw h refl }

bare_path : (v w : List ℕ) → (is_word v && is_word w) ≡ true → Bare (Token.Path v w)
bare_path v w h =
    let both : (is_word v ≡ true) × (is_word w ≡ true) = and_parts (is_word v) (is_word w) h in
    record {
      bytes = all_joined is_bare (v ++ codes ".") w (all_joined is_bare v (codes ".") (all_bare v (word v both.0).bytes) refl) (all_bare w (word w both.1).bytes);
      some = omega (arith, dotted_length v w);
      back = rw (path_no_word v w (some_bytes v both.0), path_no_number v w both.0, path_back v w both.0 both.1) refl;
    }

bare_number : (z : ℤ) → is_i64 z ≡ true → Bare (Token.Number z)
bare_number z h = record { bytes = number_bare z h; some = number_some z h; back = rw (number_no_word z h, number_back z h) refl }

-- ---- after a token
abbrev behind : List Token → Token → List ℕ → Option (List Token)
behind done (Token.Quoted t) rest = tokens_from (step_quoted done t 34) rest
behind done Token.Left rest = between (done ++ Token.Left ∷ []) rest
behind done Token.Right rest = between (done ++ Token.Right ∷ []) rest
behind done t rest = behind_word done (token_text t) rest

word_space : (done : List Token) (w : List ℕ) (t : Token) (rest : List ℕ) → list_all is_bare w ≡ true → 0 < length w → bare_of w ≡ Some t → behind_word done w (32 ∷ rest) ≡ between (done ++ t ∷ []) rest
word_space done [] t rest h l e = absurd (omega (arith, l))
word_space done (b ∷ bs) t rest h l e = bytes_space done [] b bs t rest h e

word_right : (done : List Token) (w : List ℕ) (t : Token) (rest : List ℕ) → list_all is_bare w ≡ true → 0 < length w → bare_of w ≡ Some t →
    behind_word done w (41 ∷ rest) ≡ between ((done ++ t ∷ []) ++ Token.Right ∷ []) rest
word_right done [] t rest h l e = absurd (omega (arith, l))
word_right done (b ∷ bs) t rest h l e = bytes_right done [] b bs t rest h e

word_end : (done : List Token) (w : List ℕ) (t : Token) → list_all is_bare w ≡ true → 0 < length w → bare_of w ≡ Some t → behind_word done w [] ≡ Some (done ++ t ∷ [])
word_end done [] t h l e = absurd (omega (arith, l))
word_end done (b ∷ bs) t h l e = bytes_end done [] b bs t h e

few_bytes : (t : List ℕ) → is_text t ≡ true → nat_le (length t) 200 ≡ true
few_bytes t h = (and_parts (nat_le (length t) 200) (list_all is_printable t) h).0

spaced : (done : List Token) (t : Token) (rest : List ℕ) → is_spelt t ≡ true → behind done t (32 ∷ rest) ≡ between (done ++ t ∷ []) rest
spaced done (Token.Word w) rest h = let b = bare_word w h in word_space done w (Token.Word w) rest b.bytes b.some b.back
spaced done (Token.Path v w) rest h = let b = bare_path v w h in word_space done ((v ++ codes ".") ++ w) (Token.Path v w) rest b.bytes b.some b.back
spaced done (Token.Number z) rest h = let b = bare_number z h in word_space done (signed_decimal z) (Token.Number z) rest b.bytes b.some b.back
spaced done (Token.Quoted t) rest h = rw (few_bytes t h) refl
spaced done Token.Left rest h = refl
spaced done Token.Right rest h = refl

closed : (done : List Token) (t : Token) (rest : List ℕ) → is_spelt t ≡ true → behind done t (41 ∷ rest) ≡ between ((done ++ t ∷ []) ++ Token.Right ∷ []) rest
closed done (Token.Word w) rest h = let b = bare_word w h in word_right done w (Token.Word w) rest b.bytes b.some b.back
closed done (Token.Path v w) rest h = let b = bare_path v w h in word_right done ((v ++ codes ".") ++ w) (Token.Path v w) rest b.bytes b.some b.back
closed done (Token.Number z) rest h = let b = bare_number z h in word_right done (signed_decimal z) (Token.Number z) rest b.bytes b.some b.back
closed done (Token.Quoted t) rest h = rw (few_bytes t h) refl
closed done Token.Left rest h = refl
closed done Token.Right rest h = refl

ending : (done : List Token) (t : Token) → is_spelt t ≡ true → behind done t [] ≡ Some (done ++ t ∷ [])
ending done (Token.Word w) h = let b = bare_word w h in word_end done w (Token.Word w) b.bytes b.some b.back
ending done (Token.Path v w) h = let b = bare_path v w h in word_end done ((v ++ codes ".") ++ w) (Token.Path v w) b.bytes b.some b.back
ending done (Token.Number z) h = let b = bare_number z h in word_end done (signed_decimal z) (Token.Number z) b.bytes b.some b.back
ending done (Token.Quoted t) h = rw (few_bytes t h) refl
ending done Token.Left h = refl
ending done Token.Right h = refl

-- ---- a token from where none has begun
starting : (done : List Token) (t : Token) (rest : List ℕ) → is_spelt t ≡ true → between done (token_text t ++ rest) ≡ behind done t rest
starting done (Token.Word w) rest h = let b = bare_word w h in word_begun done w rest b.bytes b.some
starting done (Token.Path v w) rest h = let b = bare_path v w h in word_begun done ((v ++ codes ".") ++ w) rest b.bytes b.some
starting done (Token.Number z) rest h = let b = bare_number z h in word_begun done (signed_decimal z) rest b.bytes b.some
starting done (Token.Quoted t) rest h = quoted_read done t rest
starting done Token.Left rest h = refl
starting done Token.Right rest h = refl

-- ---- one token after another
next_spaced : (done : List Token) (t u : Token) (rest : List ℕ) → is_spelt t ≡ true → is_spelt u ≡ true → behind done t (32 ∷ (token_text u ++ rest)) ≡ behind (done ++ t ∷ []) u rest
next_spaced done t u rest h g = spaced done t (token_text u ++ rest) h ∙ starting (done ++ t ∷ []) u rest g

-- by whether the one before is an opening parenthesis
next_other : (done : List Token) (t u : Token) (rest : List ℕ) → is_spelt t ≡ true → is_spelt u ≡ true →
    behind done t (cond (is_left t) [] (codes " ") ++ (token_text u ++ rest)) ≡ behind (done ++ t ∷ []) u rest
next_other done (Token.Word w) u rest h g = next_spaced done (Token.Word w) u rest h g
next_other done (Token.Path v w) u rest h g = next_spaced done (Token.Path v w) u rest h g
next_other done (Token.Number z) u rest h g = next_spaced done (Token.Number z) u rest h g
next_other done (Token.Quoted t) u rest h g = next_spaced done (Token.Quoted t) u rest h g
next_other done Token.Left u rest h g = starting (done ++ Token.Left ∷ []) u rest g
next_other done Token.Right u rest h g = next_spaced done Token.Right u rest h g

next : (done : List Token) (t u : Token) (rest : List ℕ) → is_spelt t ≡ true → is_spelt u ≡ true → behind done t (gap (is_left t) u ++ (token_text u ++ rest)) ≡ behind (done ++ t ∷ []) u rest
next done t (Token.Word w) rest h g = next_other done t (Token.Word w) rest h g
next done t (Token.Path v w) rest h g = next_other done t (Token.Path v w) rest h g
next done t (Token.Number z) rest h g = next_other done t (Token.Number z) rest h g
next done t (Token.Quoted u) rest h g = next_other done t (Token.Quoted u) rest h g
next done t Token.Left rest h g = next_other done t Token.Left rest h g
next done t Token.Right rest h g = closed done t rest h

-- ---- all tokens of a line
tokens_behind : (done : List Token) (t : Token) (us : List Token) → is_spelt t ≡ true → list_all is_spelt us ≡ true → behind done t (text_from (is_left t) us) ≡ Some (done ++ t ∷ us)
tokens_behind done t [] h g = ending done t h
tokens_behind done t (u ∷ us) h g =
    let parts : (is_spelt u ≡ true) × (list_all is_spelt us ≡ true) = and_parts (is_spelt u) (list_all is_spelt us) g in
    ap (λ x. behind done t x) (append_assoc (gap (is_left t) u) (token_text u) (text_from (is_left u) us))
    ∙ (next done t u (text_from (is_left u) us) h parts.0
    ∙ (tokens_behind (done ++ t ∷ []) u us parts.0 parts.1 ∙ ap (λ x. Some x) (append_assoc done (t ∷ []) (u ∷ us))))

no_gap : (t : Token) → gap true t ≡ []
no_gap (Token.Word w) = refl
no_gap (Token.Path v w) = refl
no_gap (Token.Number z) = refl
no_gap (Token.Quoted t) = refl
no_gap Token.Left = refl
no_gap Token.Right = refl

-- the tokens of a printed line are those that were printed
pub scanned : (ts : List Token) → list_all is_spelt ts ≡ true → tokens_from (Some start) (text_from true ts) ≡ Some ts
scanned [] h = refl
scanned (t ∷ ts) h =
    let parts : (is_spelt t ≡ true) × (list_all is_spelt ts ≡ true) = and_parts (is_spelt t) (list_all is_spelt ts) h in
    ap (λ g. tokens_from (Some start) ((g ++ token_text t) ++ text_from (is_left t) ts)) (no_gap t)
    ∙ (starting [] t (text_from (is_left t) ts) parts.0 ∙ tokens_behind [] t ts parts.0 parts.1)
