-- A walk ends: of the orders that a run may have, each play leaves fewer that begin with first steps that wait.
use Rattle.std.specs.Prelude.{length}
use Rattle.std.specs.List.{Contains}
use Rattle.std.proofs.Common.{◌≡◌, ◌++◌, ◌+◌, ◌<◌, ◌≤◌, ◌⊎◌, ℕ, zero, suc, inl, inr, Bool, true, false, cond, List, [], ◌∷◌, Option, refl, sym, ap, ◌∙◌, subst, arith}
use Rattle.std.proofs.lemmas.Bool.{false≢true}
use Rattle.hib_base.specs.Tables.{Tables}
use Rattle.hib_base.proofs.Tables.{Tested, tested}
use Rattle.hib_journal.specs.Types.{Script, Entry}
use Rattle.hib_order_law.specs.Orders.{IsRun, begins, steps_in, whose}
use Rattle.hib_order_law.specs.Search.{AreOthers, begun_by}
use Rattle.hib_order_law.specs.declared.step.Step.{Step}
use Rattle.hib_order_law.proofs.Begun.{Begins, begins_so, so_begins}
use Rattle.hib_order_law.proofs.Search.{others_differ, others_longer}
use Rattle.hib_order_law.proofs.Tally.{begun_by-append, begun_by-none}

-- the sum over the steps of the first n sessions
sum_steps : ℕ → (Step → ℕ) → ℕ
sum_steps zero f = 0
sum_steps (suc n) f = f (Step.Own n) + f (Step.Kill n) + sum_steps n f

-- the sum over the orders of so many such steps at most
sum_orders : ℕ → ℕ → (List Step → ℕ) → ℕ
sum_orders n zero f = f []
sum_orders n (suc l) f = f [] + sum_steps n (λ t. sum_orders n l (λ o. f (t ∷ o)))

-- with how many first steps of those that wait they begin
pub unmet : ℕ → ℕ → List (List Step) → ℕ
unmet n l waiting = sum_orders n l (λ o. begun_by o waiting)

-- each step is of one of the first n sessions
abbrev pub AreOf : ℕ → List Step → Type 0
AreOf n [] = Unit {0}
AreOf n (t ∷ ts) = (whose t < n) × AreOf n ts

steps_le : (n : ℕ) (f g : Step → ℕ) → ((t : Step) → f t ≤ g t) → sum_steps n f ≤ sum_steps n g
unfolding sum_steps
steps_le zero f g l = omega arith
steps_le (suc n) f g l =
    let i : sum_steps n f ≤ sum_steps n g = steps_le n f g l in
    let a : f (Step.Own n) ≤ g (Step.Own n) = l (Step.Own n) in
    let b : f (Step.Kill n) ≤ g (Step.Kill n) = l (Step.Kill n) in
    plain (f (Step.Own n)) (g (Step.Own n)) (f (Step.Kill n)) (g (Step.Kill n)) (sum_steps n f) (sum_steps n g) a b i
  where
    plain : (a b c d x y : ℕ) → a ≤ b → c ≤ d → x ≤ y → a + c + x ≤ b + d + y
    plain a b c d x y p q r = omega arith

split : (m n : ℕ) → m < suc n → (m ≡ n) ⊎ (m < n)
split zero zero l = inl refl
split zero (suc n) l = inr (omega arith)
split (suc m) zero l = absurd (omega (arith, l))
split (suc m) (suc n) l = by (split m n (omega arith))
  where
    by : (m ≡ n) ⊎ (m < n) → (suc m ≡ suc n) ⊎ (suc m < suc n)
    by (inl p) = inl (ap (λ k. suc k) p)
    by (inr p) = inr (omega arith)

steps_less : (n : ℕ) (f g : Step → ℕ) → ((t : Step) → f t ≤ g t) → (t : Step) → whose t < n → f t < g t → sum_steps n f < sum_steps n g
unfolding sum_steps
steps_less zero f g l t w k = absurd (omega (arith, w))
steps_less (suc n) f g l t w k = by (split (whose t) n w) (λ i. steps_less n f g l t i k)
  where
    first : (a b c d x y : ℕ) → a < b → c ≤ d → x ≤ y → a + c + x < b + d + y
    first a b c d x y p q r = omega arith

    second : (a b c d x y : ℕ) → a ≤ b → c < d → x ≤ y → a + c + x < b + d + y
    second a b c d x y p q r = omega arith

    third : (a b c d x y : ℕ) → a ≤ b → c ≤ d → x < y → a + c + x < b + d + y
    third a b c d x y p q r = omega arith

    at : (u : Step) → whose u ≡ n → f u < g u → f (Step.Own n) + f (Step.Kill n) + sum_steps n f < g (Step.Own n) + g (Step.Kill n) + sum_steps n g
    at (Step.Own s) p q = first (f (Step.Own n)) (g (Step.Own n)) (f (Step.Kill n)) (g (Step.Kill n)) (sum_steps n f) (sum_steps n g)
        (subst (λ x. f (Step.Own x) < g (Step.Own x)) p q) (l (Step.Kill n)) (steps_le n f g l)
    at (Step.Kill s) p q = second (f (Step.Own n)) (g (Step.Own n)) (f (Step.Kill n)) (g (Step.Kill n)) (sum_steps n f) (sum_steps n g)
        (l (Step.Own n)) (subst (λ x. f (Step.Kill x) < g (Step.Kill x)) p q) (steps_le n f g l)

    by : (whose t ≡ n) ⊎ (whose t < n) → (whose t < n → sum_steps n f < sum_steps n g) → f (Step.Own n) + f (Step.Kill n) + sum_steps n f < g (Step.Own n) + g (Step.Kill n) + sum_steps n g
    by (inl p) r = at t p k
    by (inr p) r = third (f (Step.Own n)) (g (Step.Own n)) (f (Step.Kill n)) (g (Step.Kill n)) (sum_steps n f) (sum_steps n g) (l (Step.Own n)) (l (Step.Kill n)) (r p)

orders_le : (n l : ℕ) (f g : List Step → ℕ) → ((o : List Step) → f o ≤ g o) → sum_orders n l f ≤ sum_orders n l g
unfolding sum_orders
orders_le n zero f g h = h []
orders_le n (suc l) f g h =
    plain (f []) (g []) (sum_steps n (λ t. sum_orders n l (λ o. f (t ∷ o)))) (sum_steps n (λ t. sum_orders n l (λ o. g (t ∷ o)))) (h [])
    (steps_le n (λ t. sum_orders n l (λ o. f (t ∷ o))) (λ t. sum_orders n l (λ o. g (t ∷ o))) (λ t. orders_le n l (λ o. f (t ∷ o)) (λ o. g (t ∷ o)) (λ o. h (t ∷ o))))
  where
    plain : (a b x y : ℕ) → a ≤ b → x ≤ y → a + x ≤ b + y
    plain a b x y p q = omega arith

orders_less : (n l : ℕ) (f g : List Step → ℕ) → ((o : List Step) → f o ≤ g o) → (order : List Step) → AreOf n order → length order ≤ l → f order < g order → sum_orders n l f < sum_orders n l g
unfolding sum_orders
orders_less n zero f g h [] a m k = k
orders_less n zero f g h (t ∷ ts) a m k = absurd (omega (arith, m))
orders_less n (suc l) f g h [] a m k =
    plain (f []) (g []) (sum_steps n (λ t. sum_orders n l (λ o. f (t ∷ o)))) (sum_steps n (λ t. sum_orders n l (λ o. g (t ∷ o)))) k
    (steps_le n (λ t. sum_orders n l (λ o. f (t ∷ o))) (λ t. sum_orders n l (λ o. g (t ∷ o))) (λ t. orders_le n l (λ o. f (t ∷ o)) (λ o. g (t ∷ o)) (λ o. h (t ∷ o))))
  where
    plain : (a b x y : ℕ) → a < b → x ≤ y → a + x < b + y
    plain a b x y p q = omega arith
orders_less n (suc l) f g h (t ∷ ts) a m k =
    plain (f []) (g []) (sum_steps n (λ t. sum_orders n l (λ o. f (t ∷ o)))) (sum_steps n (λ t. sum_orders n l (λ o. g (t ∷ o)))) (h [])
    (steps_less n (λ t. sum_orders n l (λ o. f (t ∷ o))) (λ t. sum_orders n l (λ o. g (t ∷ o))) (λ t. orders_le n l (λ o. f (t ∷ o)) (λ o. g (t ∷ o)) (λ o. h (t ∷ o))) t a.0
    (orders_less n l (λ o. f (t ∷ o)) (λ o. g (t ∷ o)) (λ o. h (t ∷ o)) ts a.1 (omega arith) k))
  where
    plain : (a b x y : ℕ) → a ≤ b → x < y → a + x < b + y
    plain a b x y p q = omega arith

-- what begins with more, begins with less
shorter : (begun other order : List Step) → Begins begun other → Begins other order → Begins begun order
shorter [] other order b c = tt
shorter (s ∷ begun) [] order b c = absurd b
shorter (s ∷ begun) (t ∷ other) [] b c = absurd c
shorter (s ∷ begun) (t ∷ other) (u ∷ order) b c = (b.0 ∙ c.0, shorter begun other order b.1 c.1)

-- a run was played that begins as one that waited, and its other orders wait
module _ (script : Script) (most_kills level : ℕ) (rest more : List (List Step)) (begun : List Step) (es : List Entry) (cut : Bool) (b : begins begun (steps_in es) ≡ true)
    (o : AreOthers script most_kills level (length begun) es more cut) where
  fewer : (order : List Step) → begun_by order more ≤ cond (begins begun order) 1 0
  fewer order = by (tested (begins begun order))
    where
      none : (n : ℕ) → n ≡ 0 → n ≤ 0
      none n p = omega arith

      by : Tested (begins begun order) → begun_by order more ≤ cond (begins begun order) 1 0
      by (inl p) = rw p (o.once order)
      by (inr p) = rw p (none (begun_by order more) (begun_by-none order more (λ other c x. false≢true (sym p ∙ so_begins begun order
          (shorter begun other order (begins_so begun other (others_longer script begun es other b (o.each other c).0)) (begins_so other order x))))))

  none_here : begun_by (steps_in es) more ≡ 0
  none_here = begun_by-none (steps_in es) more (λ other c x. others_differ script (length begun) es other (o.each other c).0 x)

  no_more : (order : List Step) → begun_by order (rest ++ more) ≤ begun_by order (rest ++ begun ∷ [])
  no_more order = plain (begun_by order rest) (begun_by order more) (cond (begins begun order) 1 0) (begun_by order (rest ++ more)) (begun_by order (rest ++ begun ∷ []))
      (begun_by-append order rest more) (begun_by-append order rest (begun ∷ [])) (fewer order)
    where
      plain : (r m d x y : ℕ) → x ≡ r + m → y ≡ r + (d + 0) → m ≤ d → x ≤ y
      plain r m d x y p q l = omega arith

  less_here : begun_by (steps_in es) (rest ++ more) < begun_by (steps_in es) (rest ++ begun ∷ [])
  less_here = plain (begun_by (steps_in es) rest) (begun_by (steps_in es) more) (cond (begins begun (steps_in es)) 1 0) (begun_by (steps_in es) (rest ++ more))
      (begun_by (steps_in es) (rest ++ begun ∷ [])) (begun_by-append (steps_in es) rest more) (begun_by-append (steps_in es) rest (begun ∷ [])) none_here (ap (λ k. cond k 1 0) b)
    where
      plain : (r m d x y : ℕ) → x ≡ r + m → y ≡ r + (d + 0) → m ≡ 0 → d ≡ 1 → x < y
      plain r m d x y p q e f = omega arith

  pub unmet_less : (n l : ℕ) → AreOf n (steps_in es) → length (steps_in es) ≤ l → unmet n l (rest ++ more) < unmet n l (rest ++ begun ∷ [])
  unfolding unmet
  unmet_less n l a m = orders_less n l (λ x. begun_by x (rest ++ more)) (λ x. begun_by x (rest ++ begun ∷ [])) no_more (steps_in es) a m less_here
