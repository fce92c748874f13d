-- Lists of which each element is good, by what makes them.
use Rattle.std.proofs.Common.{◌≡◌, ℕ, zero, suc, ◌+◌, ◌<◌, ◌≤◌, Bool, true, false, cond, List, [], ◌∷◌, ◌++◌, length, set, map, nat_lt, slice_get, Some, None, Option, IfSome, refl, sym, subst, arith}
use mathlib.Core.List.{reverse_aux}
use Rattle.std.proofs.lemmas.Bool.{and_parts, and_from, lt-ltb}
use Rattle.std.specs.List.{AllByRecursion, filter, filter_map, cons_option, flat_map, find, list_all, range_with_len}

some_same : {A : Type 0} {a b : A} → Some a ≡ Some b → a ≡ b
some_same e = cc

pub none_some : {A : Type 0} {a : A} {P : Type 0} → ◌≡◌ {A = Option A} None (Some a) → P
none_some e = absurd (no e)
  where
    no : {A : Type 0} {a : A} → ◌≡◌ {A = Option A} None (Some a) → ⊥
    no e = cc

module _ {A : Type 0} (P : A → Type 0) where
  pub each_filter : (p : A → Bool) (xs : List A) → AllByRecursion P xs → AllByRecursion P (filter p xs)
  each_filter p [] h = tt
  each_filter p (x ∷ xs) h = by (p x) (each_filter p xs h.1)
    where
      by : (b : Bool) → AllByRecursion P (filter p xs) → AllByRecursion P (cond b (x ∷ filter p xs) (filter p xs))
      by true r = (h.0, r)
      by false r = r

  pub each_append : (xs ys : List A) → AllByRecursion P xs → AllByRecursion P ys → AllByRecursion P (xs ++ ys)
  each_append [] ys h k = k
  each_append (x ∷ xs) ys h k = (h.0, each_append xs ys h.1 k)

  pub each_push : (xs : List A) (x : A) → AllByRecursion P xs → P x → AllByRecursion P (xs ++ x ∷ [])
  each_push xs x h k = each_append xs (x ∷ []) h (k, tt)

  pub each_find : (p : A → Bool) (xs : List A) → AllByRecursion P xs → IfSome (find p xs) P
  each_find p [] h = tt
  each_find p (x ∷ xs) h = by (p x) (each_find p xs h.1)
    where
      by : (b : Bool) → IfSome (find p xs) P → IfSome (cond b (Some x) (find p xs)) P
      by true r = h.0
      by false r = r

  pub each_flat : {B : Type 0} (Q : B → Type 0) (f : B → List A) → ((y : B) → Q y → AllByRecursion P (f y)) → (ys : List B) → AllByRecursion Q ys → AllByRecursion P (flat_map f ys)
  each_flat Q f g [] h = tt
  each_flat Q f g (y ∷ ys) h = each_append (f y) (flat_map f ys) (g y h.0) (each_flat Q f g ys h.1)

  pub each_filter_map : {B : Type 0} (Q : B → Type 0) (f : B → Option A) → ((y : B) → Q y → IfSome (f y) P) → (ys : List B) → AllByRecursion Q ys → AllByRecursion P (filter_map f ys)
  each_filter_map Q f g [] h = tt
  each_filter_map Q f g (y ∷ ys) h = by (f y) (g y h.0) (each_filter_map Q f g ys h.1)
    where
      by : (o : Option A) → IfSome o P → AllByRecursion P (filter_map f ys) → AllByRecursion P (cons_option o (filter_map f ys))
      by None k r = r
      by (Some x) k r = (k, r)

  pub each_at : (xs : List A) (i : ℕ) (x : A) → AllByRecursion P xs → slice_get xs i ≡ Some x → P x
  each_at [] i x h e = none_some e
  each_at (y ∷ ys) zero x h e = subst P (some_same e) h.0
  each_at (y ∷ ys) (suc i) x h e = each_at ys i x h.1 e

-- turned round, onto others
pub each_onto : {A : Type 0} (P : A → Type 0) (xs ys : List A) → AllByRecursion P xs → AllByRecursion P ys → AllByRecursion P (reverse_aux xs ys)
each_onto P [] ys h k = k
each_onto P (x ∷ xs) ys h k = each_onto P xs (x ∷ ys) h.1 (h.0, k)

pub each_test : {A : Type 0} (p : A → Bool) (xs : List A) → list_all p xs ≡ true → AllByRecursion (λ x. p x ≡ true) xs
each_test p [] h = tt
each_test p (x ∷ xs) h =
    let both : (p x ≡ true) × (list_all p xs ≡ true) = and_parts (p x) (list_all p xs) h in (both.0, each_test p xs both.1)

pub test_each : {A : Type 0} (p : A → Bool) (xs : List A) → AllByRecursion (λ x. p x ≡ true) xs → list_all p xs ≡ true
test_each p [] h = refl
test_each p (x ∷ xs) h = and_from (p x) (list_all p xs) h.0 (test_each p xs h.1)

-- of what each gives
pub test_map : {A B : Type 0} (p : B → Bool) (f : A → B) (P : A → Type 0) → ((x : A) → P x → p (f x) ≡ true) → (xs : List A) → AllByRecursion P xs → list_all p (map f xs) ≡ true
test_map p f P g [] h = refl
test_map p f P g (x ∷ xs) h = and_from (p (f x)) (list_all p (map f xs)) (g x h.0) (test_map p f P g xs h.1)

-- one element put in the place of another
pub test_set : {A : Type 0} (p : A → Bool) (xs : List A) (i : ℕ) (x : A) → list_all p xs ≡ true → p x ≡ true → list_all p (set xs i x) ≡ true
test_set p [] i x h k = refl
test_set p (y ∷ ys) zero x h k = and_from (p x) (list_all p ys) k (and_parts (p y) (list_all p ys) h).1
test_set p (y ∷ ys) (suc i) x h k =
    let both : (p y ≡ true) × (list_all p ys ≡ true) = and_parts (p y) (list_all p ys) h in
    and_from (p y) (list_all p (set ys i x)) both.0 (test_set p ys i x both.1 k)

-- numbers of a range
pub range_below : (b a m : ℕ) → a + m ≤ b → AllByRecursion (λ n. nat_lt n b ≡ true) (range_with_len a m)
range_below b a zero h = tt
range_below b a (suc m) h = (lt-ltb a b (omega arith), range_below b (a + 1) m (omega arith))

-- a place within a list has an element
pub within_some : {A : Type 0} (xs : List A) (i : ℕ) → i < length xs → slice_get xs i ≡ None → ⊥
within_some [] i h e = omega arith
within_some (x ∷ xs) zero h e = none_some (sym e)
within_some (x ∷ xs) (suc i) h e = within_some xs i (omega arith) e
