-- Tests of each of a list.
use Rattle.std.proofs.Common.{◌≡◌, ℕ, zero, suc, ◌+◌, ◌<◌, Bool, true, false, not, cond, nat_lt, List, [], ◌∷◌, ◌++◌, length, Some, None, refl, subst}
use Rattle.std.specs.Prelude.{slice_get, position}
use Rattle.std.specs.List.{list_all, position_or_len, prefix_len}
use Rattle.std.proofs.lemmas.Bool.{and_parts, and_from, ltb-true}
use Rattle.std.proofs.Common.{arith}

some_same : {A : Type 0} (x y : A) → Some x ≡ Some y → x ≡ y
some_same x y e = cc

pub some_none : {A : Type 0} (x : A) → Some x ≡ None → ⊥
some_none x e = cc

none_some : {A : Type 0} (x : A) → None ≡ Some x → ⊥
none_some x e = cc

-- what every one passes, the one at a place does
pub all_at : {A : Type 0} (p : A → Bool) (xs : List A) (i : ℕ) (x : A) → list_all p xs ≡ true → slice_get xs i ≡ Some x → p x ≡ true
all_at p [] i x h e = absurd (none_some x e)
all_at p (y ∷ ys) zero x h e = let both : (p y ≡ true) × (list_all p ys ≡ true) = and_parts (p y) (list_all p ys) h in subst (λ z. p z ≡ true) (some_same y x e) both.0
all_at p (y ∷ ys) (suc i) x h e = let both : (p y ≡ true) × (list_all p ys ≡ true) = and_parts (p y) (list_all p ys) h in all_at p ys i x both.1 e

-- and one more at the end
pub all_more : {A : Type 0} (p : A → Bool) (xs : List A) (x : A) → list_all p xs ≡ true → p x ≡ true → list_all p (xs ++ x ∷ []) ≡ true
all_more p [] x h e = and_from (p x) true e refl
all_more p (y ∷ ys) x h e =
    let both : (p y ≡ true) × (list_all p ys ≡ true) = and_parts (p y) (list_all p ys) h in
    and_from (p y) (list_all p (ys ++ x ∷ [])) both.0 (all_more p ys x both.1 e)

-- a weaker test
pub all_weaker : {A : Type 0} (p q : A → Bool) (xs : List A) → ((x : A) → p x ≡ true → q x ≡ true) → list_all p xs ≡ true → list_all q xs ≡ true
all_weaker p q [] w h = refl
all_weaker p q (x ∷ xs) w h =
    let both : (p x ≡ true) × (list_all p xs ≡ true) = and_parts (p x) (list_all p xs) h in
    and_from (q x) (list_all q xs) (w x both.0) (all_weaker p q xs w both.1)

-- a list goes on where it went on before
pub get_more : {A : Type 0} (xs ys : List A) (i : ℕ) (x : A) → slice_get xs i ≡ Some x → slice_get (xs ++ ys) i ≡ Some x
get_more [] ys i x e = absurd (none_some x e)
get_more (y ∷ xs) ys zero x e = e
get_more (y ∷ xs) ys (suc i) x e = get_more xs ys i x e

pub get_below : {A : Type 0} (xs ys : List A) (i : ℕ) → i < length xs → slice_get (xs ++ ys) i ≡ slice_get xs i
get_below [] ys i h = absurd (omega arith)
get_below (y ∷ xs) ys zero h = refl
get_below (y ∷ xs) ys (suc i) h = get_below xs ys i (omega arith)

-- the first place at which a test passes
pub position_below : {A : Type 0} (p : A → Bool) (xs : List A) (i : ℕ) → position p xs ≡ Some i → i < length xs
position_below p xs i e = by_test (nat_lt (position_or_len p xs) (length xs)) refl e
  where
    by_test : (b : Bool) → nat_lt (position_or_len p xs) (length xs) ≡ b → cond b (Some (position_or_len p xs)) None ≡ Some i → i < length xs
    by_test true h f = subst (λ n. n < length xs) (some_same (position_or_len p xs) i f) (ltb-true (position_or_len p xs) (length xs) h)
    by_test false h f = absurd (none_some i f)

-- what is found at a place passes the test
pub record Found {A : Type 0} (p : A → Bool) (xs : List A) (i : ℕ) : Type 0 where
  pub value : A
  pub there : slice_get xs i ≡ Some value
  pub passes : p value ≡ true

prefix_found : {A : Type 0} (p : A → Bool) (xs : List A) → prefix_len (λ y. not (p y)) xs < length xs → Found p xs (prefix_len (λ y. not (p y)) xs)
prefix_found p [] h = absurd (omega (arith, h))
prefix_found p (x ∷ xs) h = by_test (p x) refl h (λ l. prefix_found p xs l)
  where
    by_test : (b : Bool) → p x ≡ b → cond (not b) (1 + prefix_len (λ y. not (p y)) xs) 0 < length (x ∷ xs) → (prefix_len (λ y. not (p y)) xs < length xs → Found p xs (prefix_len (λ y. not (p y)) xs)) →
        Found p (x ∷ xs) (cond (not b) (1 + prefix_len (λ y. not (p y)) xs) 0)
    by_test true e l rest = record { value = x; there = refl; passes = e }
    by_test false e l rest =
        let f : Found p xs (prefix_len (λ y. not (p y)) xs) = rest (omega (arith, l)) in
        let n : suc (prefix_len (λ y. not (p y)) xs) ≡ 1 + prefix_len (λ y. not (p y)) xs = omega arith in
        record { value = f.value; there = subst (λ j. slice_get (x ∷ xs) j ≡ Some f.value) n f.there; passes = f.passes }

pub position_found : {A : Type 0} (p : A → Bool) (xs : List A) (i : ℕ) → position p xs ≡ Some i → Found p xs i
position_found p xs i e = by_test (nat_lt (position_or_len p xs) (length xs)) refl e
  where
    by_test : (b : Bool) → nat_lt (position_or_len p xs) (length xs) ≡ b → cond b (Some (position_or_len p xs)) None ≡ Some i → Found p xs i
    by_test true h f = subst (λ n. Found p xs n) (some_same (position_or_len p xs) i f) (prefix_found p xs (ltb-true (position_or_len p xs) (length xs) h))
    by_test false h f = absurd (none_some i f)
