-- Names that are apart are found at their places.
use Rattle.std.proofs.Common.{◌≡◌, ℕ, zero, suc, ◌<◌, Bool, true, false, not, List, [], ◌∷◌, ◌++◌, length, map, position, slice_get, bytes_eq, Some, None, refl, sym, ap, subst, arith}
use Rattle.std.specs.List.{list_all, list_any, position_or_len}
use Rattle.std.proofs.lemmas.Bool.{and_parts, and_from, or_parts, or_from, lt-ltb, le-ltb, not-true, not_from_false}
use Rattle.std.proofs.lemmas.Slice.Eq.{bytes_eq-Decides}
use Rattle.hib_base.specs.Apart.{are_apart_by}
use Rattle.hib_base.specs.Words.{is_name, is_word, is_reserved, are_apart, are_names}
use Rattle.hib_base.proofs.Names.{differ}
use Rattle.hib_base.proofs.Lists.{all_at}

pub some_same : {A : Type 0} (x y : A) → Some x ≡ Some y → x ≡ y
some_same x y e = cc

pub some_none : {A : Type 0} (x : A) → Some x ≡ None → ⊥
some_none x e = cc

pub none_some : {A : Type 0} (x : A) → None ≡ Some x → ⊥
none_some x e = cc

pub name_same : (w : List ℕ) → bytes_eq w w ≡ true
name_same w = (bytes_eq-Decides w w).1 refl

-- a test of each of a list that none passes
pub none_at : {A : Type 0} (p : A → Bool) (xs : List A) (i : ℕ) (x : A) → list_any p xs ≡ false → slice_get xs i ≡ Some x → p x ≡ false
none_at p [] i x h e = absurd (some_none x (sym e))
none_at p (y ∷ ys) zero x h e = let both : (p y ≡ false) × (list_any p ys ≡ false) = or_parts (p y) (list_any p ys) h in subst (λ z. p z ≡ false) (some_same y x e) both.0
none_at p (y ∷ ys) (suc i) x h e = let both : (p y ≡ false) × (list_any p ys ≡ false) = or_parts (p y) (list_any p ys) h in none_at p ys i x both.1 e

mapped_at : {A : Type 0} (f : A → List ℕ) (xs : List A) (i : ℕ) (x : A) → slice_get xs i ≡ Some x → slice_get (map f xs) i ≡ Some (f x)
mapped_at f [] i x e = absurd (some_none x (sym e))
mapped_at f (y ∷ ys) zero x e = ap (λ z. Some (f z)) (some_same y x e)
mapped_at f (y ∷ ys) (suc i) x e = mapped_at f ys i x e

place : {A : Type 0} (f : A → List ℕ) (xs : List A) (i : ℕ) (x : A) → are_apart (map f xs) ≡ true → slice_get xs i ≡ Some x → position_or_len (λ y. bytes_eq (f y) (f x)) xs ≡ i
place f [] i x h e = absurd (some_none x (sym e))
place f (y ∷ ys) zero x h e =
    let same : y ≡ x = some_same y x e in
    let found : bytes_eq (f y) (f x) ≡ true = subst (λ z. bytes_eq (f y) (f z) ≡ true) same (name_same (f y)) in
    rw found refl
place f (y ∷ ys) (suc i) x h e =
    let both : (not (list_any (λ z. bytes_eq z (f y)) (map f ys)) ≡ true) × (are_apart (map f ys) ≡ true) = and_parts (not (list_any (λ z. bytes_eq z (f y)) (map f ys))) (are_apart (map f ys)) h in
    let other : bytes_eq (f x) (f y) ≡ false = none_at (λ z. bytes_eq z (f y)) (map f ys) i (f x) (not-true (list_any (λ z. bytes_eq z (f y)) (map f ys)) both.0) (mapped_at f ys i x e) in
    let rest : position_or_len (λ z. bytes_eq (f z) (f x)) ys ≡ i = place f ys i x both.1 e in
    rw (differ (f x) (f y) other, rest) (omega arith)

pub got_below : {A : Type 0} (xs : List A) (i : ℕ) (x : A) → slice_get xs i ≡ Some x → i < length xs
got_below [] i x e = absurd (some_none x (sym e))
got_below (y ∷ ys) zero x e = omega arith
got_below (y ∷ ys) (suc i) x e = let h : i < length ys = got_below ys i x e in omega arith

pub record Got {A : Type 0} (xs : List A) (i : ℕ) : Type 0 where
  pub value : A
  pub there : slice_get xs i ≡ Some value

pub got : {A : Type 0} (xs : List A) (i : ℕ) → i < length xs → Got xs i
got [] i h = absurd (omega (arith, h))
got (y ∷ ys) zero h = record { value = y; there = refl }
got (y ∷ ys) (suc i) h = let g = got ys i (omega (arith, h)) in record { value = g.value; there = g.there }

-- the place of a name
pub named_at : {A : Type 0} (f : A → List ℕ) (xs : List A) (i : ℕ) (x : A) → are_apart (map f xs) ≡ true → slice_get xs i ≡ Some x → position (λ y. bytes_eq (f y) (f x)) xs ≡ Some i
named_at f xs i x h e =
    let there : position_or_len (λ y. bytes_eq (f y) (f x)) xs ≡ i = place f xs i x h e in
    rw (there, lt-ltb i (length xs) (got_below xs i x e)) refl

-- ---- names
pub names_apart : (ws : List (List ℕ)) → are_names ws ≡ true → are_apart ws ≡ true
names_apart ws h = (and_parts (list_all (λ w. is_name w) ws) (are_apart ws) h).1

pub name_at : {A : Type 0} (f : A → List ℕ) (xs : List A) (i : ℕ) (x : A) → are_names (map f xs) ≡ true → slice_get xs i ≡ Some x → is_name (f x) ≡ true
name_at f xs i x h e = all_at is_name (map f xs) i (f x) (and_parts (list_all (λ w. is_name w) (map f xs)) (are_apart (map f xs)) h).0 (mapped_at f xs i x e)

pub name_word : (w : List ℕ) → is_name w ≡ true → is_word w ≡ true
name_word w h = (and_parts (is_word w) (not (is_reserved w)) h).0

pub name_free : (w : List ℕ) → is_name w ≡ true → is_reserved w ≡ false
name_free w h = not-true (is_reserved w) (and_parts (is_word w) (not (is_reserved w)) h).1

-- ---- the front of a list of names that are apart
any_at : {A B : Type 0} (p : B → Bool) (f : A → B) (xs : List A) (x : A) (ys : List A) → list_any p (map f (xs ++ x ∷ ys)) ≡ false → p (f x) ≡ false
any_at p f [] x ys h = (or_parts (p (f x)) (list_any p (map f ys)) h).0
any_at p f (y ∷ xs) x ys h = any_at p f xs x ys (or_parts (p (f y)) (list_any p (map f (xs ++ x ∷ ys))) h).1

-- one isn't among those before it
pub new_by : {A B : Type 0} (same : B → B → Bool) → ((v w : B) → same v w ≡ false → same w v ≡ false) → (f : A → B) (xs : List A) (x : A) (ys : List A) → are_apart_by same (map f (xs ++ x ∷ ys)) ≡ true →
    list_any (λ y. same (f y) (f x)) xs ≡ false
new_by same turn f [] x ys h = refl
new_by same turn f (y ∷ xs) x ys h =
    let both : (not (list_any (λ z. same z (f y)) (map f (xs ++ x ∷ ys))) ≡ true) × (are_apart_by same (map f (xs ++ x ∷ ys)) ≡ true) =
    and_parts (not (list_any (λ z. same z (f y)) (map f (xs ++ x ∷ ys)))) (are_apart_by same (map f (xs ++ x ∷ ys))) h in
    let other : same (f x) (f y) ≡ false = any_at (λ z. same z (f y)) f xs x ys (not-true (list_any (λ z. same z (f y)) (map f (xs ++ x ∷ ys))) both.0) in
    or_from (same (f y) (f x)) (list_any (λ z. same (f z) (f x)) xs) (turn (f x) (f y) other) (new_by same turn f xs x ys both.1)

-- the name of one isn't among those before it
pub new_name : {A : Type 0} (f : A → List ℕ) (xs : List A) (x : A) (ys : List A) → are_apart (map f (xs ++ x ∷ ys)) ≡ true → list_any (λ y. bytes_eq (f y) (f x)) xs ≡ false
new_name f xs x ys h = new_by bytes_eq (λ v w. differ v w) f xs x ys h

any_front : {A : Type 0} (p : List ℕ → Bool) (f : A → List ℕ) (xs ys : List A) → list_any p (map f (xs ++ ys)) ≡ false → list_any p (map f xs) ≡ false
any_front p f [] ys h = refl
any_front p f (x ∷ xs) ys h =
    let both : (p (f x) ≡ false) × (list_any p (map f (xs ++ ys)) ≡ false) = or_parts (p (f x)) (list_any p (map f (xs ++ ys))) h in
    or_from (p (f x)) (list_any p (map f xs)) both.0 (any_front p f xs ys both.1)

pub apart_front : {A : Type 0} (f : A → List ℕ) (xs ys : List A) → are_apart (map f (xs ++ ys)) ≡ true → are_apart (map f xs) ≡ true
apart_front f [] ys h = refl
apart_front f (x ∷ xs) ys h =
    let both : (not (list_any (λ z. bytes_eq z (f x)) (map f (xs ++ ys))) ≡ true) × (are_apart (map f (xs ++ ys)) ≡ true) =
    and_parts (not (list_any (λ z. bytes_eq z (f x)) (map f (xs ++ ys)))) (are_apart (map f (xs ++ ys))) h in
    let none : list_any (λ z. bytes_eq z (f x)) (map f xs) ≡ false = any_front (λ z. bytes_eq z (f x)) f xs ys (not-true (list_any (λ z. bytes_eq z (f x)) (map f (xs ++ ys))) both.0) in
    and_from (not (list_any (λ z. bytes_eq z (f x)) (map f xs))) (are_apart (map f xs)) (not_from_false (list_any (λ z. bytes_eq z (f x)) (map f xs)) none) (apart_front f xs ys both.1)

no_place : {A : Type 0} (p : A → Bool) (xs : List A) → list_any p xs ≡ false → position_or_len p xs ≡ length xs
no_place p [] h = refl
no_place p (x ∷ xs) h =
    let both : (p x ≡ false) × (list_any p xs ≡ false) = or_parts (p x) (list_any p xs) h in
    let rest : position_or_len p xs ≡ length xs = no_place p xs both.1 in
    rw (both.0, rest) (omega arith)

-- what none passes has no place
pub not_found : {A : Type 0} (p : A → Bool) (xs : List A) → list_any p xs ≡ false → position p xs ≡ None
not_found p xs h = rw (no_place p xs h, le-ltb (length xs) (length xs) (omega arith)) refl

pub got_middle : {A : Type 0} (xs : List A) (x : A) (ys : List A) → slice_get (xs ++ x ∷ ys) (length xs) ≡ Some x
got_middle [] x ys = refl
got_middle (y ∷ xs) x ys = got_middle xs x ys
