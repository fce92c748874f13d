-- A JSON line has no line feed, whatever the texts in it.
use Rattle.std.proofs.Common.{◌≡◌, ℕ, List, [], ◌∷◌, ◌++◌, Option, Some, None, refl, Bool, true, false, not, ◌==◌, ◌||◌, ◌/◌, ◌%◌, arith, nat_lt, codes}
use Rattle.std.specs.Fmt.{decimal}
use Rattle.std.specs.Char.{digit_char}
use Rattle.std.specs.List.{list_all}
use Rattle.std.proofs.lemmas.List.Folds.{list_all-append}
use Rattle.std.proofs.lemmas.List.Concat.{flat_map-cons}
use Rattle.std.proofs.lemmas.Bool.{and_from}
use Rattle.std.proofs.lemmas.Bool.Decides.{nat_tests}
use Rattle.json.specs.Print.{escape_byte, escape, quoted}
use Rattle.serde_json.specs.Written.{compact_text}
use Rattle.hib_json_lines.specs.Line.{LineText, object_of, session_data}

abbrev pub has_none : List ℕ → Bool
has_none bs = list_all (λ b. not (b == 10)) bs

digit_none : (n : ℕ) → not (digit_char n == 10) ≡ true
digit_none n = grind (arith, nat_tests)

-- by what the byte is
marked : (x : ℕ) → ((x == 34) || (x == 92)) ≡ true → has_none (escape_byte x) ≡ true
unfolding escape_byte
marked x e =
    let pos : nat_lt 0 x ≡ true = grind (arith, nat_tests) in
    let no : not (x == 10) ≡ true = grind (arith, nat_tests) in
    rw e (rw pos (rw no refl))

plain : (x : ℕ) (s : Bool) → ((x == 34) || (x == 92)) ≡ false → (x == 8) ≡ false → (x == 12) ≡ false → (x == 10) ≡ false → (x == 13) ≡ false → (x == 9) ≡ false → nat_lt x 32 ≡ s → has_none (escape_byte x) ≡ true
unfolding escape_byte
plain x true a b c d e f s = rw (a, b, c, d, e, f) (rw s (rw (digit_none (x / 16), digit_none (x % 16)) refl))
plain x false a b c d e f s = rw (a, b, c, d, e, f) (rw s (rw d refl))

escape_none : (x : ℕ) (a b c d e f : Bool) → ((x == 34) || (x == 92)) ≡ a → (x == 8) ≡ b → (x == 12) ≡ c → (x == 10) ≡ d → (x == 13) ≡ e → (x == 9) ≡ f → has_none (escape_byte x) ≡ true
unfolding escape_byte
escape_none x true b c d e f ha hb hc hd he hf = marked x ha
escape_none x false true c d e f ha hb hc hd he hf = rw (ha, hb) refl
escape_none x false false true d e f ha hb hc hd he hf = rw (ha, hb, hc) refl
escape_none x false false false true e f ha hb hc hd he hf = rw (ha, hb, hc, hd) refl
escape_none x false false false false true f ha hb hc hd he hf = rw (ha, hb, hc, hd, he) refl
escape_none x false false false false false true ha hb hc hd he hf = rw (ha, hb, hc, hd, he, hf) refl
escape_none x false false false false false false ha hb hc hd he hf = plain x (nat_lt x 32) ha hb hc hd he hf refl

escaped_none : (s : List ℕ) → has_none (escape s) ≡ true
escaped_none [] = refl
escaped_none (x ∷ s) =
    rw (flat_map-cons, list_all-append (λ b. not (b == 10)) (escape_byte x) (escape s), escape_none x ((x == 34) || (x == 92)) (x == 8) (x == 12) (x == 10) (x == 13) (x == 9) refl refl refl refl refl refl) (escaped_none s)

none_append : (a b : List ℕ) → has_none a ≡ true → has_none b ≡ true → has_none (a ++ b) ≡ true
none_append a b h k = rw (list_all-append (λ b. not (b == 10)) a b) (and_from (has_none a) (has_none b) h k)

quoted_none : (s : List ℕ) → has_none (quoted s) ≡ true
quoted_none s = none_append (escape s) (34 ∷ []) (escaped_none s) refl

value_none : (s : Option (List ℕ)) → has_none (compact_text (session_data s)) ≡ true
value_none None = refl
value_none (Some s) = quoted_none s

pub line_none : (l : LineText) → has_none (decimal l.tick) ≡ true → has_none (compact_text (object_of l)) ≡ true
unfolding escape_byte
line_none l t =
    let r0 : List ℕ = decimal l.tick ++ codes "}" in
    let n0 : has_none r0 ≡ true = none_append (decimal l.tick) (codes "}") t refl in
    let r1 : List ℕ = codes ",\"tick\":" ++ r0 in
    let n1 : has_none r1 ≡ true = none_append (codes ",\"tick\":") r0 refl n0 in
    let r2 : List ℕ = compact_text (session_data l.session) ++ r1 in
    let n2 : has_none r2 ≡ true = none_append (compact_text (session_data l.session)) r1 (value_none l.session) n1 in
    let r3 : List ℕ = codes ",\"session\":" ++ r2 in
    let n3 : has_none r3 ≡ true = none_append (codes ",\"session\":") r2 refl n2 in
    let r4 : List ℕ = quoted l.reply ++ r3 in
    let n4 : has_none r4 ≡ true = none_append (quoted l.reply) r3 (quoted_none l.reply) n3 in
    let r5 : List ℕ = codes ",\"reply\":" ++ r4 in
    let n5 : has_none r5 ≡ true = none_append (codes ",\"reply\":") r4 refl n4 in
    let r6 : List ℕ = quoted l.part ++ r5 in
    let n6 : has_none r6 ≡ true = none_append (quoted l.part) r5 (quoted_none l.part) n5 in
    let r7 : List ℕ = codes ",\"part\":" ++ r6 in
    let n7 : has_none r7 ≡ true = none_append (codes ",\"part\":") r6 refl n6 in
    let r8 : List ℕ = quoted l.act ++ r7 in
    let n8 : has_none r8 ≡ true = none_append (quoted l.act) r7 (quoted_none l.act) n7 in
    none_append (codes "{\"act\":") r8 refl n8
