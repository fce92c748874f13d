-- The members that are read straight are those of the line.
use Rattle.std.proofs.Common.{◌≡◌, ℕ, ◌<◌, ◌≤◌, ◌^◌, ◌+◌, ◌-◌, List, [], ◌∷◌, ◌++◌, length, take, drop, get_or, Bool, true, false, not, ◌&&◌, ◌==◌, nat_lt, nat_eq, refl, ap, sym, ◌∙◌, append_assoc, append-nil, arith, codes, rules, Option, Some, None, IfSome, SomeIff, MatchOption}
use Rattle.std.specs.Fmt.{decimal}
use Rattle.std.specs.List.{list_all}
use Rattle.std.specs.Cmp.Lexicographic.{pointwise}
use Rattle.std.proofs.lemmas.Bool.Decides.{nat_tests, Decides-eqb}
use Rattle.std.proofs.lemmas.List.{take_more, take-append-drop}
use Rattle.std.proofs.lemmas.List.Concat.{flat_map-append}
use Rattle.std.proofs.lemmas.Slice.Eq.{strip_prefix_is, strip_suffix_is}
use Rattle.std.proofs.lemmas.Fmt.{decimal-digits_value}
use Rattle.std.proofs.lemmas.Str.Parse.{IsNumeralModel, numerals_by_fold}
use Rattle.json.specs.Print.{escape_byte, escape, quoted}
use Rattle.serde_json.specs.Written.{compact_text}
use Rattle.hib_lex.specs.Tokens.{is_digit, is_natural, size_of, size_after}
use Rattle.hib_json_lines.specs.Line.{LineText, object_of, session_data}
use Rattle.hib_json_lines.proofs.Parts.{spelled}
use denote.Ref.{Bor}

-- ---- the line

quoted_front : (s rest : List ℕ) → quoted s ++ rest ≡ 34 ∷ (escape s ++ 34 ∷ rest)
quoted_front s rest = ap (λ (t : List ℕ). 34 ∷ t) (append_assoc (escape s) (34 ∷ []) rest)

pub straight_line : (t r1 r2 r3 r4 : List ℕ) (l : LineText) → t ≡ codes "{\"act\":\"" ++ (escape l.act ++ 34 ∷ r1) → r1 ≡ codes ",\"part\":\"" ++ (escape l.part ++ 34 ∷ r2)
    → r2 ≡ codes ",\"reply\":\"" ++ (escape l.reply ++ 34 ∷ r3) → r3 ≡ codes ",\"session\":" ++ (compact_text (session_data l.session) ++ r4) → r4 ≡ codes ",\"tick\":" ++ (decimal l.tick ++ codes "}")
    → t ≡ compact_text (object_of l)
straight_line t r1 r2 r3 r4 l e1 e2 e3 e4 e5 =
    let act : codes "{\"act\":" ++ (quoted l.act ++ r1) ≡ t = ap (λ (x : List ℕ). codes "{\"act\":" ++ x) (quoted_front l.act r1) ∙ sym e1 in
    let part : codes ",\"part\":" ++ (quoted l.part ++ r2) ≡ r1 = ap (λ (x : List ℕ). codes ",\"part\":" ++ x) (quoted_front l.part r2) ∙ sym e2 in
    let reply : codes ",\"reply\":" ++ (quoted l.reply ++ r3) ≡ r2 = ap (λ (x : List ℕ). codes ",\"reply\":" ++ x) (quoted_front l.reply r3) ∙ sym e3 in
    sym (spelled l ∙ rw (sym e5, sym e4, reply, part, act) refl)

-- ---- what a line goes on with, and what it ends with

pub goes_on : (s p : List ℕ) (r : Option (Bor (List ℕ)))
    → MatchOption r (pointwise nat_eq (take (length p) s) p ≡ false) (λ x. (pointwise nat_eq (take (length p) s) p ≡ true) × (x.now ≡ drop (length p) s) × (length x.now + length p ≡ length s))
    → IfSome r (λ x. s ≡ p ++ x.now)
goes_on s p None m = tt
goes_on s p (Some x) m = strip_prefix_is Decides-eqb s p (Some x) m

pub ends_so : (s p : List ℕ) (r : Option (Bor (List ℕ)))
    → MatchOption r (pointwise nat_eq (drop (length s - length p) s) p ≡ false) (λ x. (pointwise nat_eq (drop (length s - length p) s) p ≡ true) × (x.now ≡ take (length s - length p) s) × (length x.now + length p ≡ length s))
    → IfSome r (λ x. s ≡ x.now ++ p)
ends_so s p None m = tt
ends_so s p (Some x) m = strip_suffix_is Decides-eqb s p (Some x) m

-- ---- a text

pub plain_byte : (x : ℕ) → 32 ≤ x → not (x == 34) ≡ true → not (x == 92) ≡ true → escape_byte x ≡ x ∷ []
unfolding escape_byte
plain_byte x a b c =
    let b34 : (x == 34) ≡ false = grind (arith, nat_tests) in
    let b92 : (x == 92) ≡ false = grind (arith, nat_tests) in
    let b8 : (x == 8) ≡ false = grind (arith, nat_tests) in
    let b12 : (x == 12) ≡ false = grind (arith, nat_tests) in
    let b10 : (x == 10) ≡ false = grind (arith, nat_tests) in
    let b13 : (x == 13) ≡ false = grind (arith, nat_tests) in
    let b9 : (x == 9) ≡ false = grind (arith, nat_tests) in
    let low : nat_lt x 32 ≡ false = grind (arith, nat_tests) in
    rw (b34, b92, b8, b12, b10, b13, b9, low) refl

escape_append : (a b : List ℕ) → escape (a ++ b) ≡ escape a ++ escape b
escape_append a b = flat_map-append escape_byte a b

escape_one : (b : ℕ) → escape (b ∷ []) ≡ escape_byte b
escape_one b = append-nil (escape_byte b)

-- a plain byte more
pub plain_more : (bytes : List ℕ) (i : ℕ) → i < length bytes → escape (take i bytes) ≡ take i bytes → escape_byte (get_or bytes i 0) ≡ get_or bytes i 0 ∷ [] → escape (take (i + 1) bytes) ≡ take (i + 1) bytes
plain_more bytes i h e b =
    let more : take (i + 1) bytes ≡ take i bytes ++ get_or bytes i 0 ∷ [] = take_more bytes i 0 h in
    ap escape more ∙ escape_append (take i bytes) (get_or bytes i 0 ∷ []) ∙ ap (λ (t : List ℕ). t ++ escape (get_or bytes i 0 ∷ [])) e
    ∙ ap (λ (t : List ℕ). take i bytes ++ t) (escape_one (get_or bytes i 0) ∙ b) ∙ sym more

-- a front of plain bytes is put
pub plain_put : (before after bytes front rest : List ℕ) (size : ℕ) → after ≡ before ++ front → front ≡ take size bytes → rest ≡ drop size bytes → escape (take size bytes) ≡ take size bytes → escape before ++ bytes ≡ escape after ++ rest
plain_put before after bytes front rest size a f r e =
    let put : escape after ≡ escape before ++ take size bytes = ap escape (a ∙ ap (λ (t : List ℕ). before ++ t) f) ∙ escape_append before (take size bytes) ∙ ap (λ (t : List ℕ). escape before ++ t) e in
    ap (λ (t : List ℕ). escape before ++ t) (sym (take-append-drop size bytes)) ∙ sym (append_assoc (escape before) (take size bytes) (drop size bytes))
    ∙ ap (λ (t : List ℕ). t ++ drop size bytes) (sym put) ∙ ap (λ (t : List ℕ). escape after ++ t) (sym r)

-- an escaped byte is put
pub escape_put : (bytes found after next rest others : List ℕ) (b : ℕ) → bytes ≡ escape found ++ rest → rest ≡ escape_byte b ++ others → after ≡ found ++ b ∷ [] → escape after ++ others ≡ next → bytes ≡ next
escape_put bytes found after next rest others b w r a n =
    let put : escape after ≡ escape found ++ escape_byte b = ap escape a ∙ escape_append found (b ∷ []) ∙ ap (λ (t : List ℕ). escape found ++ t) (escape_one b) in
    w ∙ ap (λ (t : List ℕ). escape found ++ t) r ∙ sym (append_assoc (escape found) (escape_byte b) others) ∙ ap (λ (t : List ℕ). t ++ others) (sym put) ∙ n

-- ---- the tick

and_right : (a b : Bool) → a && b ≡ true → b ≡ true
and_right true b h = h
and_right false b h = absurd cc

own : IsNumeralModel (λ ds. list_all is_digit ds ≡ true) (size_after 0)
own = numerals_by_fold _ (search rules) size_after (search rules)

digits_of : (ds : List ℕ) → is_natural ds ≡ true → (list_all is_digit ds ≡ true) × (0 < length ds) × (get_or ds 0 0 ≡ 48 → length ds ≡ 1)
digits_of [] h = absurd cc
digits_of (d ∷ []) h = (grind (arith, nat_tests), omega arith, λ _. refl)
digits_of (d ∷ c ∷ ds) h = (and_right (not (d == 48)) (list_all is_digit (d ∷ c ∷ ds)) h, omega arith, λ e. absurd (grind (arith, nat_tests)))

decimal_of : (ds : List ℕ) → is_natural ds ≡ true → size_of ds < 2 ^ 64 → decimal (size_of ds) ≡ ds
decimal_of ds n h = let d = digits_of ds n in decimal-digits_value own ds d.0 d.1 d.2 h

pub tick_read : (bytes rest digits : List ℕ) (r : Option ℕ) → bytes ≡ codes ",\"tick\":" ++ rest → rest ≡ digits ++ codes "}" → is_natural digits ≡ true → SomeIff r (size_of digits < 2 ^ 64) (size_of digits)
    → IfSome r (λ n. (bytes ≡ codes ",\"tick\":" ++ (decimal n ++ codes "}")) × (n < 2 ^ 64))
tick_read bytes rest digits None front end n s = tt
tick_read bytes rest digits (Some x) front end n s =
    let same : decimal x ≡ digits = ap decimal s.1 ∙ decimal_of digits n s.0 in
    (front ∙ ap (λ (t : List ℕ). codes ",\"tick\":" ++ t) (end ∙ ap (λ (t : List ℕ). t ++ codes "}") (sym same)), omega (arith, s.0, s.1))
