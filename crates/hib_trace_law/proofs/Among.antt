-- Tests of the elements of a list, and elements that pass them.
use Rattle.std.proofs.Common.{◌≡◌, inl, inr, Bool, true, false, List, [], ◌∷◌, map, refl, sym, ◌∙◌, ap}
use Rattle.std.specs.Prelude.{◌||◌}
use Rattle.std.specs.List.{list_any, list_all}
use Rattle.std.proofs.lemmas.Bool.{true≢false, false≢true, or_cases, and_parts}
use Rattle.hib_trace_law.specs.Certain.{IsAmong}

-- a test that can't pass fails
pub fails : (b : Bool) → (b ≡ true → ⊥) → b ≡ false
fails true f = absurd (f refl)
fails false f = refl

pub or_left : (a b : Bool) → a ≡ true → (a || b) ≡ true
or_left true b p = refl
or_left false b p = absurd (false≢true p)

pub or_right : (a b : Bool) → b ≡ true → (a || b) ≡ true
or_right true b p = refl
or_right false b p = p

or_none : (a b : Bool) → a ≡ false → b ≡ false → (a || b) ≡ false
or_none true b p q = absurd (true≢false p)
or_none false b p q = q

pub any_of : {X : Type 0} (p : X → Bool) (x : X) (xs : List X) → IsAmong x xs → p x ≡ true → list_any p xs ≡ true
any_of p x [] m e = absurd m
any_of p x (y ∷ ys) (inl q) e = or_left (p y) (list_any p ys) (sym (ap p q) ∙ e)
any_of p x (y ∷ ys) (inr m) e = or_right (p y) (list_any p ys) (any_of p x ys m e)

pub any_none : {X : Type 0} (p : X → Bool) (xs : List X) → ((x : X) → IsAmong x xs → p x ≡ true → ⊥) → list_any p xs ≡ false
any_none p [] f = refl
any_none p (y ∷ ys) f = or_none (p y) (list_any p ys) (fails (p y) (f y (inl refl))) (any_none p ys (λ x m. f x (inr m)))

pub record IsFound {X : Type 0} (p : X → Bool) (xs : List X) : Type 0 where
  pub one : X
  pub among : IsAmong one xs
  pub passes : p one ≡ true

pub any_found : {X : Type 0} (p : X → Bool) (xs : List X) → list_any p xs ≡ true → IsFound p xs
any_found p [] e = absurd (false≢true e)
any_found p (y ∷ ys) e = elim (or_cases (p y) (list_any p ys) e) [
  | inl q ↦ record { one = y; among = inl refl; passes = q }
  | inr q ↦ let r : IsFound p ys = any_found p ys q in record { one = r.one; among = inr r.among; passes = r.passes }
]

pub all_of : {X : Type 0} (p : X → Bool) (x : X) (xs : List X) → IsAmong x xs → list_all p xs ≡ true → p x ≡ true
all_of p x [] m e = absurd m
all_of p x (y ∷ ys) (inl q) e = ap p q ∙ (and_parts (p y) (list_all p ys) e).0
all_of p x (y ∷ ys) (inr m) e = all_of p x ys m (and_parts (p y) (list_all p ys) e).1

pub among_map : {X Y : Type 0} (f : X → Y) (x : X) (xs : List X) → IsAmong x xs → IsAmong (f x) (map f xs)
among_map f x [] m = absurd m
among_map f x (y ∷ ys) (inl q) = inl (ap f q)
among_map f x (y ∷ ys) (inr m) = inr (among_map f x ys m)

pub record ComesFrom {X Y : Type 0} (f : X → Y) (y : Y) (xs : List X) : Type 0 where
  pub one : X
  pub among : IsAmong one xs
  pub is : f one ≡ y

pub map_among : {X Y : Type 0} (f : X → Y) (y : Y) (xs : List X) → IsAmong y (map f xs) → ComesFrom f y xs
map_among f y [] m = absurd m
map_among f y (x ∷ xs) (inl q) = record { one = x; among = inl refl; is = sym q }
map_among f y (x ∷ xs) (inr m) = let r : ComesFrom f y xs = map_among f y xs m in record { one = r.one; among = inr r.among; is = r.is }
