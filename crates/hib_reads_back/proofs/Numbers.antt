-- Decimal numbers, read back.
use Rattle.std.proofs.Common.{◌≡◌, ℕ, zero, suc, ◌+◌, ◌-◌, ◌*◌, ◌/◌, ◌%◌, ◌^◌, ◌≤◌, ◌<◌, Bool, true, false, not, ◌||◌, ◌==◌, nat_lt, nat_le, List, [], ◌∷◌, ◌++◌, length, get_or, Some, refl, ◌∙◌, arith}
use Rattle.std.specs.Fmt.{decimal, signed_decimal}
use Rattle.std.specs.List.{list_all}
use Rattle.std.specs.Prelude.{ℤ, pos, negsuc}
use Rattle.std.proofs.lemmas.Bool.{and_parts, and_from, or_right, lt-ltb, ltb-true, le-leb, ne_eqb, not_from_false}
use Rattle.std.proofs.lemmas.Fmt.{decimal_digit, decimal_by_steps, decimal_nonempty, first_decimal}
use Rattle.hib_lex.specs.Tokens.{zero_digit, is_digit, is_word, is_zero, is_positive, size_after, size_of, natural_of, negative_of, number_of}
use Rattle.hib_reads_back.proofs.Bytes.{is_bare, digit_bare, digit_printable, digit_no_letter, digit_no_dash}
use Rattle.hib_base.specs.Fits.{is_printable}

size_more : (m : ℕ) (ds : List ℕ) (d : ℕ) → size_after m (ds ++ d ∷ []) ≡ size_after m ds * 10 + (d - zero_digit)
size_more m [] d = refl
size_more m (e ∷ ds) d = size_more (m * 10 + (e - zero_digit)) ds d

digits_more : (ds : List ℕ) (d : ℕ) → list_all is_digit ds ≡ true → is_digit d ≡ true → list_all is_digit (ds ++ d ∷ []) ≡ true
digits_more [] d h e = and_from (is_digit d) true e refl
digits_more (c ∷ ds) d h e =
    let parts : (is_digit c ≡ true) × (list_all is_digit ds ≡ true) = and_parts (is_digit c) (list_all is_digit ds) h in
    and_from (is_digit c) (list_all is_digit (ds ++ d ∷ [])) parts.0 (digits_more ds d parts.1 e)

-- digits of a number
pub record Tells (n : ℕ) (ds : List ℕ) : Type 0 where
  pub size : size_of ds ≡ n
  pub digits : list_all is_digit ds ≡ true

a_digit : (d : ℕ) → d < 10 → is_digit (48 + d) ≡ true
a_digit d h = and_from (nat_le 48 (48 + d)) (nat_le (48 + d) 57) (le-leb 48 (48 + d) (omega arith)) (le-leb (48 + d) 57 (omega arith))

tells_one : (n : ℕ) → n < 10 → Tells n ((48 + n) ∷ [])
tells_one n h = record { size = omega arith; digits = and_from (is_digit (48 + n)) true (a_digit n h) refl }

tells_more : (n : ℕ) (ds : List ℕ) → 10 ≤ n → Tells (n / 10) ds → Tells n (ds ++ ((48 + n % 10) ∷ []))
tells_more n ds h t =
    let front : size_of ds ≡ n / 10 = t.size in
    let whole : size_of (ds ++ (48 + n % 10) ∷ []) ≡ size_of ds * 10 + (48 + n % 10 - zero_digit) = size_more 0 ds (48 + n % 10) in
    let value : size_of ds * 10 + (48 + n % 10 - zero_digit) ≡ n = rw front (omega arith) in
    record { size = whole ∙ value; digits = digits_more ds (48 + n % 10) t.digits (a_digit (n % 10) (omega arith)) }

pub tells : (n : ℕ) → n < 2 ^ 64 → Tells n (decimal n)
tells n h = decimal_by_steps Tells tells_one tells_more n h

-- the first one isn't 0, but of 0
pub positive_from : (ds : List ℕ) → list_all is_digit ds ≡ true → 48 < get_or ds 0 0 → is_positive ds ≡ true
positive_from [] h l = absurd (omega (arith, l))
positive_from (d ∷ ds) h l = and_from (not (d == zero_digit)) (list_all is_digit (d ∷ ds)) (not_from_false (d == zero_digit) (ne_eqb d zero_digit (λ e. omega (arith, e, l)))) h

pub positive : (n : ℕ) → 0 < n → n < 2 ^ 64 → is_positive (decimal n) ≡ true
positive n a b = positive_from (decimal n) (tells n b).digits (first_decimal n a b)

pub shaped : (n : ℕ) → n < 2 ^ 64 → (is_zero (decimal n) || is_positive (decimal n)) ≡ true
shaped zero h = rw (decimal_digit 0 (omega arith)) refl
shaped (suc n) h = or_right (is_zero (decimal (suc n))) (is_positive (decimal (suc n))) (positive (suc n) (omega arith) h)

wide : (n : ℕ) → n < 2 ^ 63 → n < 2 ^ 64
wide n h = omega arith

pub natural_back : (n : ℕ) → n < 2 ^ 63 → natural_of (decimal n) ≡ Some (pos n)
natural_back n h = rw (shaped n (wide n h), (tells n (wide n h)).size, lt-ltb n (2 ^ 63) h) refl

digits_no_word : (ds : List ℕ) → list_all is_digit ds ≡ true → is_word ds ≡ false
digits_no_word [] h = refl
digits_no_word (d ∷ ds) h =
    let parts : (is_digit d ≡ true) × (list_all is_digit ds ≡ true) = and_parts (is_digit d) (list_all is_digit ds) h in
    rw (digit_no_letter d parts.0) refl

no_dash : (ds : List ℕ) → list_all is_digit ds ≡ true → 0 < length ds → number_of ds ≡ natural_of ds
no_dash [] h l = absurd (omega (arith, l))
no_dash (d ∷ ds) h l =
    let parts : (is_digit d ≡ true) × (list_all is_digit ds ≡ true) = and_parts (is_digit d) (list_all is_digit ds) h in
    rw (digit_no_dash d parts.0) refl

-- ---- numbers within i64
abbrev pub is_i64 : ℤ → Bool
is_i64 (pos n) = nat_lt n (2 ^ 63)
is_i64 (negsuc n) = nat_lt n (2 ^ 63)

pub number_no_word : (z : ℤ) → is_i64 z ≡ true → is_word (signed_decimal z) ≡ false
number_no_word (pos n) h = digits_no_word (decimal n) (tells n (wide n (ltb-true n (2 ^ 63) h))).digits
number_no_word (negsuc n) h = refl

natural_number : (n : ℕ) → n < 2 ^ 63 → number_of (decimal n) ≡ Some (pos n)
natural_number n h = no_dash (decimal n) (tells n (wide n h)).digits (decimal_nonempty n (wide n h)) ∙ natural_back n h

negative_back : (n : ℕ) → n < 2 ^ 63 → negative_of (decimal (suc n)) ≡ Some (negsuc n)
negative_back n h =
    let l : suc n < 2 ^ 64 = omega arith in
    rw (positive (suc n) (omega arith) l, (tells (suc n) l).size, le-leb (suc n) (2 ^ 63) (omega arith)) refl

pub number_back : (z : ℤ) → is_i64 z ≡ true → number_of (signed_decimal z) ≡ Some z
number_back (pos n) h = natural_number n (ltb-true n (2 ^ 63) h)
number_back (negsuc n) h = negative_back n (ltb-true n (2 ^ 63) h)

digits_bare : (ds : List ℕ) → list_all is_digit ds ≡ true → list_all is_bare ds ≡ true
digits_bare [] h = refl
digits_bare (d ∷ ds) h =
    let parts : (is_digit d ≡ true) × (list_all is_digit ds ≡ true) = and_parts (is_digit d) (list_all is_digit ds) h in
    and_from (is_bare d) (list_all is_bare ds) (digit_bare d parts.0) (digits_bare ds parts.1)

pub number_bare : (z : ℤ) → is_i64 z ≡ true → list_all is_bare (signed_decimal z) ≡ true
number_bare (pos n) h = digits_bare (decimal n) (tells n (wide n (ltb-true n (2 ^ 63) h))).digits
number_bare (negsuc n) h = let low : n < 2 ^ 63 = ltb-true n (2 ^ 63) h in digits_bare (decimal (suc n)) (tells (suc n) (omega arith)).digits

pub number_some : (z : ℤ) → is_i64 z ≡ true → 0 < length (signed_decimal z)
number_some (pos n) h = decimal_nonempty n (wide n (ltb-true n (2 ^ 63) h))
number_some (negsuc n) h = omega arith

digits_printable : (ds : List ℕ) → list_all is_digit ds ≡ true → list_all is_printable ds ≡ true
digits_printable [] h = refl
digits_printable (d ∷ ds) h =
    let parts : (is_digit d ≡ true) × (list_all is_digit ds ≡ true) = and_parts (is_digit d) (list_all is_digit ds) h in
    and_from (is_printable d) (list_all is_printable ds) (digit_printable d parts.0) (digits_printable ds parts.1)

pub number_printable : (z : ℤ) → is_i64 z ≡ true → list_all is_printable (signed_decimal z) ≡ true
number_printable (pos n) h = digits_printable (decimal n) (tells n (wide n (ltb-true n (2 ^ 63) h))).digits
number_printable (negsuc n) h = let low : n < 2 ^ 63 = ltb-true n (2 ^ 63) h in digits_printable (decimal (suc n)) (tells (suc n) (omega arith)).digits
