-- How often an order is met among first steps and among runs.
use Rattle.std.specs.Prelude.{length}
use Rattle.std.specs.List.{Contains}
use Rattle.std.proofs.Common.{◌≡◌, ◌+◌, ◌++◌, ◌<◌, ◌≤◌, ◌⊎◌, ℕ, zero, suc, inl, inr, true, cond, List, [], ◌∷◌, refl, sym, ap, subst, arith, slice_index_or}
use Rattle.std.proofs.lemmas.List.Elements.{Contains-append_right}
use Rattle.hib_base.proofs.Tables.{Tested, tested}
use Rattle.hib_journal.specs.Types.{Entry}
use Rattle.hib_order_law.specs.Orders.{steps_in, begins}
use Rattle.hib_order_law.specs.Search.{begun_by, same_order, times}
use Rattle.hib_order_law.specs.declared.step.Step.{Step}
use Rattle.hib_order_law.proofs.Begun.{is_same, same_is}

-- the first of a list, or one behind it
pub Contains-cases : {X : Type 0} (x : X) (xs : List X) (y : X) → Contains (x ∷ xs) y → (x ≡ y) ⊎ Contains xs y
Contains-cases x xs y c = by c.0 c.1 c.2
  where
    by : (k : ℕ) → k < length (x ∷ xs) → slice_index_or (x ∷ xs) k y ≡ y → (x ≡ y) ⊎ Contains xs y
    by zero l p = inl p
    by (suc k) l p = inr (k, omega arith, p)

pub Contains-first : {X : Type 0} (x : X) (xs : List X) → Contains (x ∷ xs) x
Contains-first x xs = (0, omega arith, refl)

pub Contains-behind : {X : Type 0} (x : X) (xs : List X) (y : X) → Contains xs y → Contains (x ∷ xs) y
Contains-behind x xs y c = Contains-append_right (x ∷ []) xs y c

pub Contains-none : {X : Type 0} (x : X) → Contains [] x → ⊥
Contains-none x c = let l : c.0 < 0 = c.1 in omega arith

pub begun_by-append : (order : List Step) (xs ys : List (List Step)) → begun_by order (xs ++ ys) ≡ begun_by order xs + begun_by order ys
begun_by-append order [] ys = omega arith
begun_by-append order (x ∷ xs) ys =
    let i : begun_by order (xs ++ ys) ≡ begun_by order xs + begun_by order ys = begun_by-append order xs ys in
    more (cond (begins x order) 1 0) (begun_by order (xs ++ ys)) (begun_by order xs) (begun_by order ys) i
  where
    more : (c a x y : ℕ) → a ≡ x + y → c + a ≡ (c + x) + y
    more c a x y p = omega arith

pub begun_by-some : (order other : List Step) (xs : List (List Step)) → Contains xs other → begins other order ≡ true → 1 ≤ begun_by order xs
begun_by-some order other [] c b = absurd (Contains-none other c)
begun_by-some order other (x ∷ xs) c b = by (Contains-cases x xs other c) (λ i. begun_by-some order other xs i b)
  where
    at : (d n : ℕ) → (d ≡ 1) ⊎ (1 ≤ n) → 1 ≤ d + n
    at d n (inl p) = omega arith
    at d n (inr p) = omega arith

    by : (x ≡ other) ⊎ Contains xs other → (Contains xs other → 1 ≤ begun_by order xs) → 1 ≤ cond (begins x order) 1 0 + begun_by order xs
    by (inl p) f = at (cond (begins x order) 1 0) (begun_by order xs) (inl (ap (λ k. cond k 1 0) (subst (λ i. begins i order ≡ true) (sym p) b)))
    by (inr i) f = at (cond (begins x order) 1 0) (begun_by order xs) (inr (f i))

pub begun_by-none : (order : List Step) (xs : List (List Step)) → ((other : List Step) → Contains xs other → begins other order ≡ true → ⊥) → begun_by order xs ≡ 0
begun_by-none order [] f = refl
begun_by-none order (x ∷ xs) f = by (tested (begins x order)) (begun_by-none order xs (λ other c b. f other (Contains-behind x xs other c) b))
  where
    by : Tested (begins x order) → begun_by order xs ≡ 0 → cond (begins x order) 1 0 + begun_by order xs ≡ 0
    by (inl p) n = absurd (f x (Contains-first x xs) p)
    by (inr p) n = rw (p, n)

pub times-some : (es : List Entry) (runs : List (List Entry)) → Contains runs es → 1 ≤ times (steps_in es) runs
times-some es [] c = absurd (Contains-none es c)
times-some es (ds ∷ runs) c = by (Contains-cases ds runs es c) (λ i. times-some es runs i)
  where
    at : (d n : ℕ) → (d ≡ 1) ⊎ (1 ≤ n) → 1 ≤ d + n
    at d n (inl p) = omega arith
    at d n (inr p) = omega arith

    by : (ds ≡ es) ⊎ Contains runs es → (Contains runs es → 1 ≤ times (steps_in es) runs) → 1 ≤ cond (same_order (steps_in ds) (steps_in es)) 1 0 + times (steps_in es) runs
    by (inl p) f =
        at (cond (same_order (steps_in ds) (steps_in es)) 1 0) (times (steps_in es) runs)
        (inl (ap (λ k. cond k 1 0) (subst (λ x. same_order (steps_in x) (steps_in es) ≡ true) (sym p) (is_same (steps_in es)))))
    by (inr i) f = at (cond (same_order (steps_in ds) (steps_in es)) 1 0) (times (steps_in es) runs) (inr (f i))

-- of an order that was met there is a run
pub times-has : (order : List Step) (runs : List (List Entry)) → 1 ≤ times order runs → (es : List Entry) × Contains runs es × (steps_in es ≡ order)
times-has order [] l = absurd (no l)
  where
    no : 1 ≤ 0 → ⊥
    no l = omega arith
times-has order (ds ∷ runs) l = by (tested (same_order (steps_in ds) order)) (times-has order runs)
  where
    plain : (n : ℕ) → 1 ≤ 0 + n → 1 ≤ n
    plain n l = omega arith

    rest : (es : List Entry) × Contains runs es × (steps_in es ≡ order) → (es : List Entry) × Contains (ds ∷ runs) es × (steps_in es ≡ order)
    rest x = (x.0, Contains-behind ds runs x.0 x.1, x.2)

    by : Tested (same_order (steps_in ds) order) → (1 ≤ times order runs → (es : List Entry) × Contains runs es × (steps_in es ≡ order)) →
        (es : List Entry) × Contains (ds ∷ runs) es × (steps_in es ≡ order)
    by (inl p) f = (ds, Contains-first ds runs, same_is (steps_in ds) order p)
    by (inr p) f = rest (f (plain (times order runs) (subst (λ k. 1 ≤ cond k 1 0 + times order runs) p l)))
