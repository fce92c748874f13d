-- What `parse` refuses lies above the range.
use Rattle.std.proofs.Common.{◌≡◌, ◌<◌, ◌≤◌, ◌^◌, ◌&&◌, ◌==◌, ℕ, Bool, cond, true, false, refl, arith, [], ◌∷◌, length, Some, None, inl, inr, nat_lt}
use Rattle.std.specs.Prelude.{nat_le, not, slice_index}
use Rattle.std.specs.Char.{digit_value, is_ascii_digit}
use Rattle.std.specs.List.{list_all}
use Rattle.std.specs.Str.Parse.{AllDigits, IsNumeral, digits_value, without_leading_plus}
use Rattle.std.proofs.lemmas.Bool.{cases_lt}
use Rattle.std.proofs.lemmas.Bool.Decides.{nat_tests}
use Rattle.hib_words.specs.Given.{Text}
use Rattle.hib_words.specs.Commands.{in_range, is_numeral, number_between}
use Rattle.hib_words.proofs.Fit.{both}

digit_in : (c : ℕ) → is_ascii_digit c ≡ true → (48 ≤ c) × (c ≤ 57)
digit_in c e = grind (arith, nat_tests)

digit_reads : (c : ℕ) → is_ascii_digit c ≡ true → digit_value c < 10
digit_reads c e =
    let r = digit_in c e in
    let low : nat_lt c 48 ≡ false = grind (arith, nat_tests) in
    let high : nat_lt c 58 ≡ true = grind (arith, nat_tests) in
    rw (low, high) (omega arith)

digits_read : (ds : Text) → list_all is_ascii_digit ds ≡ true → AllDigits 10 ds
digits_read [] e = tt
digits_read (d ∷ ds) e =
    let parts = both (is_ascii_digit d) (list_all is_ascii_digit ds) e in
    (digit_reads d parts.0, digits_read ds parts.1)

plain : (c : ℕ) (ds : Text) → is_ascii_digit c ≡ true → without_leading_plus (c ∷ ds) ≡ c ∷ ds
plain c ds e =
    let r = digit_in c e in
    let no_plus : (c == 43) ≡ false = grind (arith, nat_tests) in
    rw no_plus refl

above : (low high n : ℕ) → high < n → None ≡ in_range low high n
above low high n lt =
    let past : nat_le n high ≡ false = grind (arith, nat_tests) in
    go (nat_le low n) past
  where
    go : (b : Bool) → nat_le n high ≡ false → None ≡ cond (b && nat_le n high) (Some n) None
    go true e = rw e refl
    go false e = refl

pub not_read : (text : Text) (low high : ℕ) → high < 2 ^ 32 → is_numeral text ≡ true
    → (IsNumeral 10 (without_leading_plus text) × (digits_value 10 (without_leading_plus text) < 2 ^ 32) → ⊥) → None ≡ number_between low high text
not_read [] low high fits e no_number = refl
not_read (c ∷ ds) low high fits e no_number =
    let digits : list_all is_ascii_digit (c ∷ ds) ≡ true = (both (nat_lt 0 (length (c ∷ ds))) (list_all is_ascii_digit (c ∷ ds)) (both (not (nat_lt 1 (length (c ∷ ds)) && slice_index (c ∷ ds) 0 == 48)) (nat_lt 0 (length (c ∷ ds)) && list_all is_ascii_digit (c ∷ ds)) e).1).1 in
    let same : without_leading_plus (c ∷ ds) ≡ c ∷ ds = plain c ds (both _ _ digits).0 in
    let is_number : IsNumeral 10 (c ∷ ds) = (omega arith, digits_read (c ∷ ds) digits) in
    let out : None ≡ in_range low high (digits_value 10 (c ∷ ds)) = elim (cases_lt (digits_value 10 (c ∷ ds)) (2 ^ 32)) [
      | inl lt ↦ absurd (no_number (rw same (is_number, lt)))
      | inr ge ↦ above low high _ (omega arith)
    ] in
    rw e out
