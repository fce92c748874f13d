-- Bytes of words, numbers and texts, as a scan sees them.
use Rattle.std.proofs.Common.{◌≡◌, ℕ, Bool, true, false, not, ◌&&◌, ◌||◌, ◌==◌, arith}
use Rattle.std.proofs.lemmas.Bool.{and_parts, or_parts, not-true}
use Rattle.std.proofs.lemmas.Bool.Decides.{nat_tests}
use Rattle.hib_base.specs.Fits.{is_printable}
use Rattle.hib_lex.specs.Tokens.{space, mark, left, right, dash, dot, is_end, is_letter, is_digit, is_word_byte}

-- a byte of a word, a path or a number
abbrev pub is_bare : ℕ → Bool
is_bare b = not (is_end b) && not (b == mark)

pub record Plain (b : ℕ) : Type 0 where
  pub no_space : (b == space) ≡ false
  pub no_left : (b == left) ≡ false
  pub no_right : (b == right) ≡ false
  pub no_mark : (b == mark) ≡ false

pub plain : (b : ℕ) → is_bare b ≡ true → Plain b
plain b h =
    let parts : (not (is_end b) ≡ true) × (not (b == mark) ≡ true) = and_parts (not (is_end b)) (not (b == mark)) h in
    let ends : ((b == space) ≡ false) × (((b == left) || (b == right)) ≡ false) = or_parts (b == space) ((b == left) || (b == right)) (not-true (is_end b) parts.0) in
    let sides : ((b == left) ≡ false) × ((b == right) ≡ false) = or_parts (b == left) (b == right) ends.1 in
    record { no_space = ends.0; no_left = sides.0; no_right = sides.1; no_mark = not-true (b == mark) parts.1 }

pub word_bare : (b : ℕ) → is_word_byte b ≡ true → is_bare b ≡ true
word_bare b h = grind (arith, nat_tests)

pub digit_bare : (b : ℕ) → is_digit b ≡ true → is_bare b ≡ true
digit_bare b h = grind (arith, nat_tests)

pub letter_bare : (b : ℕ) → is_letter b ≡ true → is_bare b ≡ true
letter_bare b h = grind (arith, nat_tests)

pub word_printable : (b : ℕ) → is_word_byte b ≡ true → is_printable b ≡ true
word_printable b h = grind (arith, nat_tests)

pub digit_printable : (b : ℕ) → is_digit b ≡ true → is_printable b ≡ true
digit_printable b h = grind (arith, nat_tests)

pub letter_word : (b : ℕ) → is_letter b ≡ true → is_word_byte b ≡ true
letter_word b h = grind (arith, nat_tests)

pub digit_no_letter : (b : ℕ) → is_digit b ≡ true → is_letter b ≡ false
digit_no_letter b h = grind (arith, nat_tests)

pub letter_no_digit : (b : ℕ) → is_letter b ≡ true → is_digit b ≡ false
letter_no_digit b h = grind (arith, nat_tests)

pub digit_no_dash : (b : ℕ) → is_digit b ≡ true → (b == dash) ≡ false
digit_no_dash b h = grind (arith, nat_tests)

pub letter_no_dash : (b : ℕ) → is_letter b ≡ true → (b == dash) ≡ false
letter_no_dash b h = grind (arith, nat_tests)

pub letter_no_zero : (b : ℕ) → is_letter b ≡ true → (b == 48) ≡ false
letter_no_zero b h = grind (arith, nat_tests)

pub word_no_dot : (b : ℕ) → is_word_byte b ≡ true → (b == dot) ≡ false
word_no_dot b h = grind (arith, nat_tests)

pub digit_word : (b : ℕ) → is_digit b ≡ true → is_word_byte b ≡ true
digit_word b h = grind (arith, nat_tests)
