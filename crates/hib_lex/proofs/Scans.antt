-- One byte more of a line, or of digits.
use Rattle.std.proofs.Common.{◌≡◌, ℕ, ◌+◌, ◌-◌, ◌*◌, ◌<◌, ◌≤◌, List, [], ◌∷◌, length, drop, get_or, cond, ◌==◌, refl, Bool, true, false, not, ◌&&◌, arith, add-one, drop-cons}
use Rattle.std.specs.List.{list_all}
use Rattle.std.proofs.lemmas.List.{drop_all}
use Rattle.std.proofs.lemmas.Bool.Decides.{nat_tests}
use Rattle.hib_lex.specs.Tokens.{is_positive, is_digit, size_of, space, hash, zero_digit, is_blank, size_after}

pub blank_next : (bs : List ℕ) (i : ℕ) → i < length bs → is_blank (drop i bs) ≡ cond (get_or bs i 0 == space) (is_blank (drop (i + 1) bs)) (get_or bs i 0 == hash)
blank_next bs i h = rw (add-one, drop-cons bs i 0) refl

pub digit_next : (n : ℕ) (ds : List ℕ) (i : ℕ) → i < length ds → size_after n (drop i ds) ≡ size_after (n * 10 + (get_or ds i 0 - zero_digit)) (drop (i + 1) ds)
digit_next n ds i h = rw (add-one, drop-cons ds i 0) refl

pub size_grows : (n : ℕ) (ds : List ℕ) → n ≤ size_after n ds
size_grows n [] = omega arith
size_grows n (d ∷ ds) = omega (arith, size_grows (n * 10 + (d - zero_digit)) ds)

pub size_done : (n : ℕ) (ds : List ℕ) (i : ℕ) → length ds ≤ i → size_after n (drop i ds) ≡ n
size_done n ds i h = rw (drop_all i ds h) refl

first_size : (d : ℕ) → not (d == zero_digit) && (is_digit d) ≡ true → 0 < 0 * 10 + (d - zero_digit)
first_size d h = grind (arith, nat_tests)

and_more : (a b c : Bool) → a && (b && c) ≡ true → a && b ≡ true
and_more true true c h = refl
and_more true false c h = h
and_more false b c h = h

pub positive_size : (ds : List ℕ) → is_positive ds ≡ true → 0 < size_of ds
positive_size [] h = absurd (cc)
positive_size (d ∷ ds) h =
    let more = first_size d (and_more (not (d == zero_digit)) (is_digit d) (list_all is_digit ds) h) in
    omega (arith, size_grows (0 * 10 + (d - zero_digit)) ds)
