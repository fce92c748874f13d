-- A piece that was written is read again.
use Rattle.std.proofs.Common.{◌≡◌, ℕ, suc, ◌+◌, ◌-◌, ◌*◌, ◌/◌, ◌%◌, ◌^◌, ◌<◌, ◌≤◌, List, [], ◌∷◌, ◌++◌, length, take, drop, refl, ap, Bool, true, false, not, ◌&&◌, arith, nat_lt, length-append}
use Rattle.std.specs.List.{list_all}
use Rattle.std.specs.Fmt.{decimal}
use Rattle.std.proofs.lemmas.Fmt.{decimal_by_steps}
use Rattle.std.proofs.lemmas.List.Folds.{list_all-append}
use Rattle.std.proofs.lemmas.Bool.Decides.{nat_tests}
use Rattle.hib_lex.specs.Tokens.{size_of, size_after, is_digit, zero_digit}
use Rattle.hib_entry_fields.specs.Fields.{is_stop, piece_len, piece, behind, next, after, number_of}

-- no byte at which a piece stops
abbrev pub is_plain : List ℕ → Bool
is_plain bs = list_all (λ b. not (is_stop b)) bs

-- bytes of seven bits
abbrev pub is_ascii : List ℕ → Bool
is_ascii bs = list_all (λ b. nat_lt b 128) bs

-- the end, or a byte at which a piece stops
abbrev pub Stops : List ℕ → Type 0
Stops [] = Unit {0}
Stops (b ∷ bs) = is_stop b ≡ true

pub and_left : (a b : Bool) → a && b ≡ true → a ≡ true
and_left true b h = refl
and_left false b h = h

pub and_right : (a b : Bool) → a && b ≡ true → b ≡ true
and_right true b h = h
and_right false b h = absurd cc

pub not_true : (b : Bool) → not b ≡ true → b ≡ false
not_true true h = absurd cc
not_true false h = refl

pub piece_len_again : (p rest : List ℕ) → is_plain p ≡ true → Stops rest → piece_len (p ++ rest) ≡ length p
piece_len_again [] [] h s = refl
piece_len_again [] (b ∷ bs) h s = rw s refl
piece_len_again (b ∷ p) rest h s =
    let go : is_stop b ≡ false = not_true (is_stop b) (and_left (not (is_stop b)) (is_plain p) h) in
    rw go (ap suc (piece_len_again p rest (and_right (not (is_stop b)) (is_plain p) h) s))

take_front : (p rest : List ℕ) → take (length p) (p ++ rest) ≡ p
take_front [] rest = refl
take_front (b ∷ p) rest = ap (λ (t : List ℕ). b ∷ t) (take_front p rest)

drop_front : (p rest : List ℕ) → drop (length p) (p ++ rest) ≡ rest
drop_front [] rest = refl
drop_front (b ∷ p) rest = drop_front p rest

pub piece_again : (p rest : List ℕ) → is_plain p ≡ true → Stops rest → piece (p ++ rest) ≡ p
unfolding piece
piece_again p rest h s = rw (piece_len_again p rest h s) (take_front p rest)

pub behind_again : (p rest : List ℕ) → is_plain p ≡ true → Stops rest → behind (p ++ rest) ≡ rest
unfolding behind
behind_again p rest h s = rw (piece_len_again p rest h s) (drop_front p rest)

pub next_again : (p rest : List ℕ) → is_plain p ≡ true → Stops rest → next (32 ∷ (p ++ rest)) ≡ p
unfolding next
next_again p rest h s = piece_again p rest h s

pub after_again : (p rest : List ℕ) → is_plain p ≡ true → Stops rest → after (32 ∷ (p ++ rest)) ≡ rest
unfolding after
after_again p rest h s = behind_again p rest h s

-- ---- numbers

abbrev pub Numeral : ℕ → List ℕ → Type 0
Numeral n ds = (list_all is_digit ds ≡ true) × (size_of ds ≡ n) × (0 < length ds)

size_append : (m : ℕ) (ds : List ℕ) (d : ℕ) → size_after m (ds ++ d ∷ []) ≡ size_after m ds * 10 + (d - zero_digit)
size_append m [] d = refl
size_append m (c ∷ ds) d = size_append (m * 10 + (c - zero_digit)) ds d

one_digit : (n : ℕ) → n < 10 → Numeral n ((48 + n) ∷ [])
one_digit n lt =
    let d : is_digit (48 + n) ≡ true = grind (arith, nat_tests) in
    (rw d refl, omega arith, omega arith)

more_digits : (n : ℕ) (ds : List ℕ) → 10 ≤ n → Numeral (n / 10) ds → Numeral n (ds ++ ((48 + n % 10) ∷ []))
more_digits n ds le h =
    let d : is_digit (48 + n % 10) ≡ true = grind (arith, nat_tests) in (
      rw (list_all-append is_digit ds ((48 + n % 10) ∷ []), h.0) (rw d refl),
      rw (size_append 0 ds (48 + n % 10)) (omega (arith, h.1)),
      omega (arith, length-append ds ((48 + n % 10) ∷ [])),
    )

pub numeral : (n : ℕ) → n < 2 ^ 64 → Numeral n (decimal n)
numeral n lt = decimal_by_steps Numeral one_digit more_digits n lt

digit_plain : (d : ℕ) → is_digit d ≡ true → not (is_stop d) ≡ true
digit_plain d h = grind (arith, nat_tests)

pub digits_plain : (ds : List ℕ) → list_all is_digit ds ≡ true → is_plain ds ≡ true
digits_plain [] h = refl
digits_plain (d ∷ ds) h = rw (digit_plain d (and_left (is_digit d) (list_all is_digit ds) h)) (digits_plain ds (and_right (is_digit d) (list_all is_digit ds) h))

pub decimal_plain : (n : ℕ) → n < 2 ^ 64 → is_plain (decimal n) ≡ true
decimal_plain n lt = digits_plain (decimal n) (numeral n lt).0

pub lt_true : (a b : ℕ) → a < b → nat_lt a b ≡ true
lt_true a b h = grind (arith, nat_tests)

pub number_again : (n : ℕ) → n < 2 ^ 64 → number_of (decimal n) ≡ n
unfolding number_of
number_again n lt = rw ((numeral n lt).1, lt_true n (2 ^ 64) lt) refl
