-- What the tokens of a text keep: words have their form, numbers are small, and texts are short and printable.
use Rattle.std.proofs.Common.{◌≡◌, ℕ, zero, suc, ◌+◌, ◌^◌, ◌≤◌, Bool, true, false, cond, ◌&&◌, ◌||◌, ◌==◌, nat_lt, nat_le, List, [], ◌∷◌, ◌++◌, length, take, drop, Option, Some, None, Result, Ok, Err, pos, refl, arith}
use Rattle.std.specs.Prelude.{ℤ, neg_ℤ, option_map, option_and_then, position}
use Rattle.std.specs.List.{list_all}
use Rattle.std.proofs.lemmas.Bool.{and_parts, and_from, leb-true, lt-ltb}
use Rattle.hib_base.specs.Fits.{is_printable, is_text, is_wide}
use Rattle.hib_base.specs.Words.{is_word}
use Rattle.hib_base.specs.declared.refusals.Kind.{Kind}
use Rattle.hib_base.specs.declared.refusals.Refused.{Refused}
use Rattle.hib_base.proofs.Gives.{Gives, Then, then_cond}
use Rattle.hib_base.proofs.Lists.{all_more}
use Rattle.hib_lex.specs.Lines.{lines_of, content_of, tokens_or_bad, line_with, with_said, with_line, lexing, lex_after}
use Rattle.hib_lex.specs.Tokens as lines
use Rattle.hib_lex.specs.Tokens.{Place, Scan, is_lexical, is_blank, path_at, natural_of, negative_of, number_of, or_path, bare_of, with_bare, is_end, is_zero, is_positive, size_of, tokens_of}
use Rattle.hib_lex.specs.declared.lexer.Token.{Token}
use Rattle.hib_lex.specs.declared.lines.Content.{Content}
use Rattle.hib_lex.specs.declared.lines.Line.{Line}
use Rattle.hib_lex.specs.declared.lines.Lines.{Lines}

abbrev pub is_lexed : Token → Bool
is_lexed (Token.Word w) = is_word w
is_lexed (Token.Number n) = is_wide n
is_lexed (Token.Quoted t) = is_text t
is_lexed _ = true

abbrev pub are_lexed : List Token → Bool
are_lexed ts = list_all (λ t. is_lexed t) ts

-- ---- what stands without quotation marks
neg_lexed : (n : ℕ) → nat_le n (2 ^ 63) ≡ true → is_lexed (Token.Number (neg_ℤ (pos n))) ≡ true
neg_lexed zero h = refl
neg_lexed (suc n) h = let l : suc n ≤ 2 ^ 63 = leb-true (suc n) (2 ^ 63) h in lt-ltb n 9223372036854775808 (omega (arith, l))

natural_lexed : (ds : List ℕ) → Then (natural_of ds) (λ n. is_lexed (Token.Number n) ≡ true)
natural_lexed ds =
    then_cond ((is_zero ds || is_positive ds) && nat_lt (size_of ds) (2 ^ 63)) (Some (pos (size_of ds))) None (λ n. is_lexed (Token.Number n) ≡ true)
    (λ h. let both : ((is_zero ds || is_positive ds) ≡ true) × (nat_lt (size_of ds) (2 ^ 63) ≡ true) = and_parts (is_zero ds || is_positive ds) (nat_lt (size_of ds) (2 ^ 63)) h in both.1)
    (λ _. tt)

negative_lexed : (ds : List ℕ) → Then (negative_of ds) (λ n. is_lexed (Token.Number n) ≡ true)
negative_lexed ds =
    then_cond (is_positive ds && nat_le (size_of ds) (2 ^ 63)) (Some (neg_ℤ (pos (size_of ds)))) None (λ n. is_lexed (Token.Number n) ≡ true)
    (λ h. neg_lexed (size_of ds) (and_parts (is_positive ds) (nat_le (size_of ds) (2 ^ 63)) h).1) (λ _. tt)

number_lexed : (bs : List ℕ) → Then (number_of bs) (λ n. is_lexed (Token.Number n) ≡ true)
number_lexed [] = tt
number_lexed (b ∷ bs) =
    then_cond (b == lines.dash) (negative_of bs) (natural_of (b ∷ bs)) (λ n. is_lexed (Token.Number n) ≡ true) (λ _. negative_lexed bs) (λ _. natural_lexed (b ∷ bs))

path_lexed : (bs : List ℕ) (i : Option ℕ) → Then (path_at bs i) (λ t. is_lexed t ≡ true)
path_lexed bs None = tt
path_lexed bs (Some i) =
    then_cond (is_word (take i bs) && is_word (drop (i + 1) bs)) (Some (Token.Path (take i bs) (drop (i + 1) bs))) None (λ t. is_lexed t ≡ true) (λ _. refl) (λ _. tt)

or_path_lexed : (bs : List ℕ) (n : Option ℤ) → Then n (λ n. is_lexed (Token.Number n) ≡ true) → Then (or_path bs n) (λ t. is_lexed t ≡ true)
or_path_lexed bs None h = path_lexed bs (position (λ b. b == lines.dot) bs)
or_path_lexed bs (Some n) h = h

bare_lexed : (bs : List ℕ) → Then (bare_of bs) (λ t. is_lexed t ≡ true)
bare_lexed bs = then_cond (is_word bs) (Some (Token.Word bs)) (or_path bs (number_of bs)) (λ t. is_lexed t ≡ true) (λ h. h) (λ _. or_path_lexed bs (number_of bs) (number_lexed bs))

-- ---- the scan
abbrev is_clean : Place → Bool
is_clean (Place.Quoted bs) = list_all is_printable bs
is_clean (Place.Escaped bs) = list_all is_printable bs
is_clean _ = true

record Scanned (ts : List Token) (p : Place) : Type 0 where
  tokens : are_lexed ts ≡ true
  place : is_clean p ≡ true

abbrev Holds : Scan → Type 0
Holds s = Scanned s.tokens s.place

with_lexed : (ts : List Token) (t : Option Token) → are_lexed ts ≡ true → Then t (λ t. is_lexed t ≡ true) → Then (option_map (λ t. ts ++ t ∷ []) t) (λ us. are_lexed us ≡ true)
with_lexed ts None h g = tt
with_lexed ts (Some t) h g = all_more (λ (t : Token). is_lexed t) ts t h g

between_lexed : (ts : List Token) (b : ℕ) → are_lexed ts ≡ true → Then (lines.step_between ts b) Holds
between_lexed ts b h =
    let open_mark : Option Scan = cond (b == lines.mark) (lines.scan_at ts (Place.Quoted [])) (lines.scan_at ts (Place.Bare (b ∷ []))) in
    let to_right : Option Scan = cond (b == lines.right) (lines.scan_at (ts ++ Token.Right ∷ []) Place.Between) open_mark in
    let to_left : Option Scan = cond (b == lines.left) (lines.scan_at (ts ++ Token.Left ∷ []) Place.Between) to_right in
    then_cond (b == lines.space) (lines.scan_at ts Place.Between) to_left Holds (λ _. record { tokens = h; place = refl })
    (λ _. then_cond (b == lines.left) (lines.scan_at (ts ++ Token.Left ∷ []) Place.Between) to_right Holds (λ _. record { tokens = all_more (λ (t : Token). is_lexed t) ts Token.Left h refl; place = refl })
    (λ _. then_cond (b == lines.right) (lines.scan_at (ts ++ Token.Right ∷ []) Place.Between) open_mark Holds (λ _. record { tokens = all_more (λ (t : Token). is_lexed t) ts Token.Right h refl; place = refl })
    (λ _. then_cond (b == lines.mark) (lines.scan_at ts (Place.Quoted [])) (lines.scan_at ts (Place.Bare (b ∷ []))) Holds (λ _. record { tokens = h; place = refl }) (λ _. record { tokens = h; place = refl }))))

and_between : (b : ℕ) (done : Option (List Token)) → Then done (λ us. are_lexed us ≡ true) → Then (option_and_then (λ done. lines.step_between done b) done) Holds
and_between b None h = tt
and_between b (Some us) h = between_lexed us b h

step_lexed : (ts : List Token) (p : Place) (b : ℕ) → Scanned ts p → is_printable b ≡ true → Then (lines.step_at ts p b) Holds
step_lexed ts Place.Between b s h = between_lexed ts b s.tokens
step_lexed ts (Place.Bare bs) b s h =
    then_cond (is_end b) (option_and_then (λ done. lines.step_between done b) (with_bare ts bs)) (lines.scan_at ts (Place.Bare (bs ++ b ∷ []))) Holds
    (λ _. and_between b (with_bare ts bs) (with_lexed ts (bare_of bs) s.tokens (bare_lexed bs))) (λ _. record { tokens = s.tokens; place = refl })
step_lexed ts (Place.Quoted bs) b s h =
    let to_text : Option Scan = cond (nat_le (length bs) 200) (lines.scan_at (ts ++ Token.Quoted bs ∷ []) Place.Closed) None in
    let to_end : Option Scan = cond (b == lines.mark) to_text (lines.scan_at ts (Place.Quoted (bs ++ b ∷ []))) in
    then_cond (b == lines.backslash) (lines.scan_at ts (Place.Escaped bs)) to_end Holds (λ _. record { tokens = s.tokens; place = s.place })
    (λ _. then_cond (b == lines.mark) to_text (lines.scan_at ts (Place.Quoted (bs ++ b ∷ []))) Holds
    (λ _. then_cond (nat_le (length bs) 200) (lines.scan_at (ts ++ Token.Quoted bs ∷ []) Place.Closed) None Holds
    (λ l. record { tokens = all_more (λ (t : Token). is_lexed t) ts (Token.Quoted bs) s.tokens (and_from (nat_le (length bs) 200) (list_all is_printable bs) l s.place); place = refl }) (λ _. tt))
    (λ _. record { tokens = s.tokens; place = all_more is_printable bs b s.place h }))
step_lexed ts (Place.Escaped bs) b s h =
    then_cond ((b == lines.mark) || (b == lines.backslash)) (lines.scan_at ts (Place.Quoted (bs ++ b ∷ []))) None Holds (λ _. record { tokens = s.tokens; place = all_more is_printable bs b s.place h }) (λ _. tt)
step_lexed ts Place.Closed b s h = then_cond (is_end b) (lines.step_between ts b) None Holds (λ _. between_lexed ts b s.tokens) (λ _. tt)

ended_lexed : (ts : List Token) (p : Place) → Scanned ts p → Then (lines.ended_at ts p) (λ us. are_lexed us ≡ true)
ended_lexed ts Place.Between s = s.tokens
ended_lexed ts (Place.Bare bs) s = with_lexed ts (bare_of bs) s.tokens (bare_lexed bs)
ended_lexed ts (Place.Quoted bs) s = tt
ended_lexed ts (Place.Escaped bs) s = tt
ended_lexed ts Place.Closed s = s.tokens

scan_lexed : (o : Option Scan) (bs : List ℕ) → Then o Holds → list_all is_printable bs ≡ true → Then (lines.tokens_from o bs) (λ us. are_lexed us ≡ true)
scan_lexed None bs s h = tt
scan_lexed (Some scan) [] s h = ended_lexed scan.tokens scan.place s
scan_lexed (Some scan) (b ∷ bs) s h =
    let both : (is_printable b ≡ true) × (list_all is_printable bs ≡ true) = and_parts (is_printable b) (list_all is_printable bs) h in
    scan_lexed (lines.step scan b) bs (step_lexed scan.tokens scan.place b s both.0) both.1

line_lexed : (line : List ℕ) → Then (tokens_of line) (λ us. are_lexed us ≡ true)
line_lexed line =
    then_cond (is_lexical line) (lines.tokens_from (Some lines.start) line) None (λ us. are_lexed us ≡ true)
    (λ h. let both : (nat_le (length line) 4096 ≡ true) × (list_all is_printable line ≡ true) = and_parts (nat_le (length line) 4096) (list_all is_printable line) h in
    scan_lexed (Some lines.start) line (record { tokens = refl; place = refl }) both.1) (λ _. tt)

-- ---- the lines of a text
abbrev is_content : Content → Bool
is_content (Content.Tokens ts) = are_lexed ts
is_content _ = true

or_bad_lexed : (o : Option (List Token)) → Then o (λ us. are_lexed us ≡ true) → is_content (tokens_or_bad o) ≡ true
or_bad_lexed None h = refl
or_bad_lexed (Some ts) h = h

content_lexed : (line : List ℕ) → is_content (content_of line) ≡ true
content_lexed line = by_tests (list_all is_printable line) (nat_le (length line) 4096) (is_blank line)
  where
    by_tests : (p s b : Bool) → is_content (cond p (cond s (cond b Content.Nothing (tokens_or_bad (tokens_of line))) (Content.Bad Kind.Long)) (Content.Bad Kind.Byte)) ≡ true
    by_tests false s b = refl
    by_tests true false b = refl
    by_tests true true true = refl
    by_tests true true false = or_bad_lexed (tokens_of line) (line_lexed line)

-- each line's tokens are such
abbrev pub are_lines_lexed : List Line → Bool
are_lines_lexed ls = list_all (λ l. are_lexed l.tokens) ls

with_content_lexed : (done : Lines) (c : Content) → are_lines_lexed done.lines ≡ true → is_content c ≡ true → Gives (with_said done (line_with (done.count + 1) c)) (λ l. are_lines_lexed l.lines ≡ true)
with_content_lexed done Content.Nothing h w = h
with_content_lexed done (Content.Tokens ts) h w = all_more (λ (l : Line). are_lexed l.tokens) done.lines (record { line = done.count + 1; tokens = ts }) h w
with_content_lexed done (Content.Bad kind) h w = tt

lexing_lexed : (x : Result Lines Refused) (ls : List (List ℕ)) → Gives x (λ l. are_lines_lexed l.lines ≡ true) → Gives (lexing x ls) (λ l. are_lines_lexed l.lines ≡ true)
lexing_lexed (Err r) ls g = tt
lexing_lexed (Ok done) [] g = g
lexing_lexed (Ok done) (l ∷ ls) g = lexing_lexed (with_line done l) ls (with_content_lexed done (content_of l) g (content_lexed l))

pub text_lexed : (before : ℕ) (text : List ℕ) → Gives (lex_after before text) (λ l. are_lines_lexed l.lines ≡ true)
text_lexed before text = lexing_lexed (Ok (record { lines = []; count = before })) (lines_of text) refl
