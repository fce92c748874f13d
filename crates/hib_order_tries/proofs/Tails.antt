-- What is known of the rest of an order, with the step before it.
use Rattle.std.specs.Prelude.{length, drop, not, get_or, ◌||◌, ◌==◌}
use Rattle.std.specs.List.{list_all}
use Rattle.std.proofs.Common.{◌≡◌, ◌++◌, ◌+◌, ◌<◌, ◌≤◌, ◌⊎◌, ℕ, zero, suc, inl, inr, Bool, true, false, cond, List, [], ◌∷◌, Some, Option, refl, sym, ap, ◌∙◌, subst, arith}
use Rattle.std.proofs.lemmas.Bool.{false≢true, eqb-true}
use Rattle.std.proofs.lemmas.List.{get_or_default}
use Rattle.std.proofs.lemmas.List.Folds.{list_any-append}
use Rattle.hib_base.proofs.Tables.{Tested, tested}
use Rattle.hib_order_law.specs.Orders.{comes, is_kill_step, leaves, switches, whose}
use Rattle.hib_order_law.specs.declared.step.Step.{Step}
use Rattle.hib_order_law.proofs.Begun.{and_both, and_left, and_right}
use Rattle.hib_order_tries.specs.Tail.{AreOwn, IsTail, count_of}

pub count_of-append : (s : ℕ) (xs ys : List Step) → count_of s (xs ++ ys) ≡ count_of s xs + count_of s ys
count_of-append s [] ys = omega arith
count_of-append s (x ∷ xs) ys =
    let i : count_of s (xs ++ ys) ≡ count_of s xs + count_of s ys = count_of-append s xs ys in
    more (cond (whose x == s) 1 0) (count_of s (xs ++ ys)) (count_of s xs) (count_of s ys) i
  where
    more : (c a x y : ℕ) → a ≡ x + y → c + a ≡ (c + x) + y
    more c a x y p = omega arith

pub count_of-none : (s : ℕ) (xs : List Step) → comes s xs ≡ false → count_of s xs ≡ 0
count_of-none s [] n = refl
count_of-none s (x ∷ xs) n = by (tested (whose x == s)) (count_of-none s xs)
  where
    by : Tested (whose x == s) → (comes s xs ≡ false → count_of s xs ≡ 0) → cond (whose x == s) 1 0 + count_of s xs ≡ 0
    by (inl p) f = absurd (false≢true (sym n ∙ rw p refl))
    by (inr p) f = rw (p, f (subst (λ b. (b || comes s xs) ≡ false) p n))

-- with one more step at the end
pub comes-push : (x : ℕ) (these : List Step) (u : Step) → comes x (these ++ u ∷ []) ≡ ((whose u == x) || comes x these)
comes-push x these u = list_any-append (λ t. whose t == x) these (u ∷ []) ∙ flip (comes x these) (whose u == x)
  where
    flip : (a b : Bool) → (a || (b || false)) ≡ (b || a)
    flip true true = refl
    flip true false = refl
    flip false true = refl
    flip false false = refl

pub once-push : (x : ℕ) (these : List Step) (u : Step) → comes (whose u) these ≡ false → count_of x these ≤ 1 → count_of x (these ++ u ∷ []) ≤ 1
once-push x these u n f = rw (count_of-append x these (u ∷ [])) (by (tested (whose u == x)))
  where
    one : (k : ℕ) → k ≡ 0 → k + (1 + 0) ≤ 1
    one k p = omega arith

    none : (k : ℕ) → k ≤ 1 → k + (0 + 0) ≤ 1
    none k p = omega arith

    by : Tested (whose u == x) → count_of x these + (cond (whose u == x) 1 0 + 0) ≤ 1
    by (inl p) = rw p (one (count_of x these) (subst (λ i. count_of i these ≡ 0) (eqb-true (whose u) x p) (count_of-none (whose u) these n)))
    by (inr p) = rw p (none (count_of x these) f)

pub all-push : (p : Step → Bool) (these : List Step) (u : Step) → list_all p these ≡ true → p u ≡ true → list_all p (these ++ u ∷ []) ≡ true
all-push p [] u a q = and_both (p u) true q refl
all-push p (t ∷ ts) u a q = and_both (p t) (list_all p (ts ++ u ∷ [])) (and_left (p t) (list_all p ts) a) (all-push p ts u (and_right (p t) (list_all p ts) a) q)

-- that a step of a session stands there, noted if it didn't
abbrev pub IsNoted : ℕ → List Step → List Step → Type 0
IsNoted s these new = ((comes s these ≡ true) × (new ≡ these)) ⊎ ((comes s these ≡ false) × (new ≡ these ++ Step.Own s ∷ []))

more_all : (steps these new : List Step) (s t : Step) → t ≡ s → ((x : ℕ) → comes x these ≡ comes x steps) → IsNoted (whose t) these new → (x : ℕ) → comes x new ≡ comes x (s ∷ steps)
more_all steps these new s t e f (inl n) x = rw n.1 (f x ∙ by (tested (whose s == x)))
  where
    by : Tested (whose s == x) → comes x steps ≡ ((whose s == x) || comes x steps)
    by (inl p) = rw p (subst (λ i. comes i steps ≡ true) (ap whose e ∙ eqb-true (whose s) x p) (sym (f (whose t)) ∙ n.0))
    by (inr p) = rw p refl
more_all steps these new s t e f (inr n) x =
    rw n.1 (comes-push x these (Step.Own (whose t)) ∙ ap (λ i. (whose i == x) || comes x these) e ∙ ap (λ b. (whose s == x) || b) (f x))

more_own : (these new : List Step) (s : ℕ) → AreOwn these → IsNoted s these new → AreOwn new
more_own these new s o (inl n) = subst (λ l. AreOwn l) (sym n.1) o
more_own these new s o (inr n) = subst (λ l. AreOwn l) (sym n.1) (record {
  once = λ x. once-push x these (Step.Own s) n.0 (o.once x);
  own = all-push (λ t. not (is_kill_step t)) these (Step.Own s) o.own refl;
})

taken : (steps these new : List Step) (first : Option ℕ) (left more : ℕ) (s : Step) → IsTail steps these first left → IsNoted (whose s) these new →
    more ≡ cond (leaves (whose s) steps) 1 0 + left → IsTail (s ∷ steps) new (Some (whose s)) more
taken steps these new first left more s t n m = record {
  all = more_all steps these new s s refl t.all n;
  each = more_own these new (whose s) t.each n;
  head = refl;
  count = m ∙ ap (λ k. cond (leaves (whose s) steps) 1 0 + k) t.count;
}

pub taken_by : (steps these new : List Step) (first : Option ℕ) (left more n : ℕ) (s : Step) → n ≡ whose s → IsTail steps these first left → IsNoted n these new →
    more ≡ cond (leaves n steps) 1 0 + left → IsTail (s ∷ steps) new (Some n) more
taken_by steps these new first left more n s e t k m =
    subst (λ i. IsTail (s ∷ steps) new (Some i) more) (sym e)
    (taken steps these new first left more s t (subst (λ i. IsNoted i these new) e k) (subst (λ i. more ≡ cond (leaves i steps) 1 0 + left) e m))

-- an order makes no more switches than it has steps
pub switches-few : (order : List Step) → switches order ≤ length order
switches-few [] = omega arith
switches-few (s ∷ order) = by (leaves (whose s) order) (switches-few order)
  where
    by : (b : Bool) → switches order ≤ length order → cond b 1 0 + switches order ≤ suc (length order)
    by true l = omega arith
    by false l = omega arith

pub length-drop-le : (n : ℕ) (order : List Step) → length (drop n order) ≤ length order
length-drop-le zero order = omega arith
length-drop-le (suc n) [] = omega arith
length-drop-le (suc n) (s ∷ order) = let i : length (drop n order) ≤ length order = length-drop-le n order in omega arith

pub tail-few : (order these : List Step) (first : Option ℕ) (left n : ℕ) → IsTail (drop n order) these first left → left ≤ length order
tail-few order these first left n t =
    let a : left ≡ switches (drop n order) = t.count in
    let b : switches (drop n order) ≤ length (drop n order) = switches-few (drop n order) in
    let c : length (drop n order) ≤ length order = length-drop-le n order in omega arith

-- the step before a place, and the steps from that place on, are those from that step on
pub dropped : (order : List Step) (at : ℕ) (s : Step) → at < length order → s ≡ get_or order at s → s ∷ drop (suc at) order ≡ drop at order
dropped [] at s l p = absurd (no at l)
  where
    no : (at : ℕ) → at < 0 → ⊥
    no at l = omega arith
dropped (x ∷ xs) zero s l p = ap (λ i. i ∷ xs) p
dropped (x ∷ xs) (suc at) s l p = dropped xs at s (omega arith) p

-- so at a place that is told by its distance from the end
pub tail_back : (order : List Step) (p at : ℕ) (d : Step) → p ≡ at → at < length order → get_or order p d ∷ drop (suc at) order ≡ drop at order
tail_back order p at d e l = dropped order at (get_or order p d) l (ap (λ i. get_or order i d) e ∙ get_or_default order at d (get_or order p d) l)

pub dropped_all : (at : ℕ) (order : List Step) → length order ≤ at → drop at order ≡ []
dropped_all zero [] l = refl
dropped_all (suc at) [] l = refl
dropped_all zero (s ∷ order) l = absurd (no (length order) l)
  where
    no : (n : ℕ) → suc n ≤ 0 → ⊥
    no n l = omega arith
dropped_all (suc at) (s ∷ order) l = dropped_all at order (omega arith)
