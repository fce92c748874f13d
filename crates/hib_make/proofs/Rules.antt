-- Rules that all keep which are made one after another.
use Rattle.std.proofs.Common.{◌≡◌, ℕ, zero, suc, ◌*◌, ◌≤◌, ◌<◌, Bool, true, ◌&&◌, List, [], ◌∷◌, ◌++◌, map, length, refl, sym, subst, inl, inr, arith, length-append}
use Rattle.std.specs.List.{list_all}
use Rattle.std.proofs.lemmas.Bool.{and_parts, and_from, cases_lt}
use Rattle.std.proofs.lemmas.List.{length-map}
use Rattle.hib_make.specs.Draws.{Drawn, drawn, many}

-- a draw answers one of n numbers
pub drawn_below : (n x : ℕ) → 0 < n → drawn n x < n
drawn_below n x h = omega arith

-- ---- tests of the first numbers
abbrev pub each_to : (ℕ → Bool) → ℕ → Bool
each_to t zero = true
each_to t (suc n) = t (suc n) && each_to t n

pub each_at : (t : ℕ → Bool) (n k : ℕ) → each_to t n ≡ true → 1 ≤ k → k ≤ n → t k ≡ true
each_at t zero k h a b = absurd (omega arith)
each_at t (suc n) k h a b =
    let both : (t (suc n) ≡ true) × (each_to t n ≡ true) = and_parts (t (suc n)) (each_to t n) h in
    let last : suc n ≤ k → t k ≡ true = λ c. let e : suc n ≡ k = omega arith in subst (λ m. t m ≡ true) e both.0 in
    elim (cases_lt k (suc n)) as (λ v. t k ≡ true) [ inl c ↦ each_at t n k both.1 a (omega arith) | inr c ↦ last c ]

-- ---- tests that all pass
pub all_both : {A : Type 0} (p : A → Bool) (xs ys : List A) → list_all p xs ≡ true → list_all p ys ≡ true → list_all p (xs ++ ys) ≡ true
all_both p [] ys h g = g
all_both p (x ∷ xs) ys h g =
    let both : (p x ≡ true) × (list_all p xs ≡ true) = and_parts (p x) (list_all p xs) h in
    and_from (p x) (list_all p (xs ++ ys)) both.0 (all_both p xs ys both.1 g)

pub many_all : {A : Type 0} (p : A → Bool) (f : ℕ → ℕ → Drawn A) (n x : ℕ) → ((k y : ℕ) → 1 ≤ k → k ≤ n → list_all p (f k y).made ≡ true) → list_all p (many f n x).made ≡ true
unfolding many
many_all p f zero x h = refl
many_all p f (suc n) x h =
    all_both p (many f n x).made (f (suc n) (many f n x).state).made (many_all p f n x (λ k y a b. h k y a (omega (arith, b))))
    (h (suc n) (many f n x).state (omega arith) (omega arith))

-- ---- numbers of things
-- one or two are made each time
pub many_few : {A : Type 0} (f : ℕ → ℕ → Drawn A) (n x : ℕ) → ((k y : ℕ) → 1 ≤ k → k ≤ n → length (f k y).made ≤ 2) → length (many f n x).made ≤ 2 * n
unfolding many
many_few f zero x h = omega arith
many_few f (suc n) x h =
    let before : length (many f n x).made ≤ 2 * n = many_few f n x (λ k y a b. h k y a (omega (arith, b))) in
    let last : length (f (suc n) (many f n x).state).made ≤ 2 = h (suc n) (many f n x).state (omega arith) (omega arith) in
    rw (length-append (many f n x).made (f (suc n) (many f n x).state).made) (omega arith)

-- ---- what doesn't depend on draws
-- the first, up to the n-th
abbrev pub up_to : {B : Type 0} → (ℕ → B) → ℕ → List B
up_to g zero = []
up_to g (suc n) = up_to g n ++ g (suc n) ∷ []

pub map_both : {A B : Type 0} (g : A → B) (xs ys : List A) → map g (xs ++ ys) ≡ map g xs ++ map g ys
map_both g [] ys = refl
map_both g (x ∷ xs) ys = rw (map_both g xs ys) refl

pub many_map : {A B : Type 0} (g : A → B) (t : ℕ → B) (f : ℕ → ℕ → Drawn A) (n x : ℕ) → ((k y : ℕ) → map g (f k y).made ≡ t k ∷ []) → map g (many f n x).made ≡ up_to t n
unfolding many
many_map g t f zero x h = refl
many_map g t f (suc n) x h = rw (map_both g (many f n x).made (f (suc n) (many f n x).state).made, many_map g t f n x h, h (suc n) (many f n x).state) refl

-- there are as many as what of each is known
pub as_many : {A B : Type 0} (g : A → B) (xs : List A) (ys : List B) → map g xs ≡ ys → length xs ≡ length ys
as_many g xs ys e = subst (λ zs. length xs ≡ length zs) e (sym (length-map xs g))
