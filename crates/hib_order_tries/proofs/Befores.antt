-- What the steps before a place cost.
use Rattle.std.specs.Prelude.{not, length, drop, take, get_or, ◌&&◌, ◌||◌, ◌==◌, ◌-◌}
use Rattle.std.proofs.Common.{◌≡◌, ◌++◌, ◌+◌, ◌<◌, ◌≤◌, ℕ, zero, suc, Bool, true, false, cond, List, [], ◌∷◌, Some, None, Option, refl, sym, ap, ◌∙◌, subst, arith}
use Rattle.hib_order_law.specs.Orders.{comes, cost, leaves, switches, whose}
use Rattle.hib_order_law.specs.declared.step.Step.{Step}
use Rattle.hib_order_tries.specs.Tail.{IsTail}
use Rattle.hib_order_tries.specs.Left.{IsBefore, first_of}
use Rattle.hib_order_tries.proofs.Tails.{dropped}

flip : (x c : Bool) → (not x && (x || c)) ≡ (not x && c)
flip true c = refl
flip false c = refl

cost_before : (k : ℕ) (order : List Step) (d t : Step) → k < length order →
    cost order (take (suc k) order ++ t ∷ []) + switches (drop k order)
    ≡ switches order + cond (not (whose t == whose (get_or order k d)) && comes (whose (get_or order k d)) (drop (suc k) order)) 1 0
cost_before k [] d t l = absurd (no k l)
  where
    no : (k : ℕ) → k < 0 → ⊥
    no k l = omega arith
cost_before zero (s ∷ []) d t l = plain (cond (not (whose t == whose s) && comes (whose s) []) 1 0) (switches (s ∷ []))
  where
    plain : (x n : ℕ) → (x + 0) + n ≡ n + x
    plain x n = omega arith
cost_before zero (s ∷ u ∷ ys) d t l = plain (cond (not (whose t == whose s) && comes (whose s) (u ∷ ys)) 1 0) (switches (s ∷ u ∷ ys))
  where
    plain : (x n : ℕ) → (x + 0) + n ≡ n + x
    plain x n = omega arith
cost_before (suc k) (s ∷ []) d t l = absurd (no k l)
  where
    no : (k : ℕ) → suc k < 1 → ⊥
    no k l = omega arith
cost_before (suc k) (x ∷ u ∷ ys) d t l =
    add (cond (not (whose u == whose x) && comes (whose x) (u ∷ ys)) 1 0) (cond (leaves (whose x) (u ∷ ys)) 1 0) (cost (u ∷ ys) (take (suc k) (u ∷ ys) ++ t ∷ []))
    (switches (drop k (u ∷ ys))) (switches (u ∷ ys))
    (cond (not (whose t == whose (get_or (u ∷ ys) k d)) && comes (whose (get_or (u ∷ ys) k d)) (drop (suc k) (u ∷ ys))) 1 0)
    (ap (λ b. cond b 1 0) (flip (whose u == whose x) (comes (whose x) ys))) (cost_before k (u ∷ ys) d t (omega arith))
  where
    add : (a b c d e f : ℕ) → a ≡ b → c + d ≡ e + f → (a + c) + d ≡ (b + e) + f
    add a b c d e f p q = omega arith

switches-drop : (k : ℕ) (order : List Step) → switches (drop k order) ≤ switches order
switches-drop zero order = omega arith
switches-drop (suc k) [] = omega arith
switches-drop (suc k) (s ∷ order) = more (cond (leaves (whose s) order) 1 0) (switches (drop k order)) (switches order) (switches-drop k order)
  where
    more : (c a b : ℕ) → a ≤ b → a ≤ c + b
    more c a b l = omega arith

-- what is known of the step before a place, and of the steps from that place on
pub record Rest (k at : ℕ) (order these : List Step) (first : Option ℕ) (left rest s : ℕ) (u : Step) : Type 0 where
  pub place : at ≡ suc k
  pub tail : IsTail (drop at order) these first left
  pub inside : at ≤ length order
  pub more : rest ≡ cond (leaves s (drop at order)) 1 0 + left
  pub session : s ≡ whose u
  pub step : u ≡ get_or order k u

module _ (k : ℕ) (order these : List Step) (first : Option ℕ) (left rest s : ℕ) (u : Step) (r : Rest k (suc k) order these first left rest s u) where
  here : k < length order
  here = less (length order) r.inside
    where
      less : (n : ℕ) → suc k ≤ n → k < n
      less n l = omega arith

  -- the switches from the step before a place on
  rest_is : rest ≡ switches (drop k order)
  rest_is =
      r.more ∙ ap (λ n. cond (leaves s (drop (suc k) order)) 1 0 + n) r.tail.count ∙ ap (λ i. cond (leaves i (drop (suc k) order)) 1 0 + switches (drop (suc k) order)) r.session
      ∙ ap (λ x. switches x) (dropped order k u here r.step)

  fits : rest ≤ switches order
  fits = subst (λ n. n ≤ switches order) (sym rest_is) (switches-drop k order)

  before : (total : ℕ) → total ≡ switches order → (t : Step) → cost order (first_of order (suc k) t) ≡ (total - rest) + cond (not (whose t == s) && comes s these) 1 0
  before total m t =
      sum (cost order (first_of order (suc k) t)) (switches (drop k order)) rest (switches order) total (cond (not (whose t == s) && comes s these) 1 0)
      (subst (λ b. cost order (first_of order (suc k) t) + switches (drop k order) ≡ switches order + cond (not (whose t == s) && b) 1 0) (sym (r.tail.all s))
      (subst (λ i. cost order (first_of order (suc k) t) + switches (drop k order) ≡ switches order + cond (not (whose t == i) && comes i (drop (suc k) order)) 1 0)
      (sym (r.session ∙ ap whose r.step)) (cost_before k order u t here)))
      rest_is m (switches-drop k order)
    where
      sum : (c d r w n x : ℕ) → c + d ≡ w + x → r ≡ d → n ≡ w → d ≤ w → c ≡ (n - r) + x
      sum c d r w n x p q m l = omega arith

module _ (k at : ℕ) (order these : List Step) (first : Option ℕ) (left rest s : ℕ) (u : Step) (r : Rest k at order these first left rest s u) where
  to_suc : Rest k (suc k) order these first left rest s u
  to_suc = subst (λ a. Rest k a order these first left rest s u) r.place r

  pub rest_fits : rest ≤ switches order
  rest_fits = fits k order these first left rest s u to_suc

  -- a session is left there if it comes again
  pub before_left : (total : ℕ) → total ≡ switches order → comes s these ≡ true → IsBefore order at (total - rest) (Some s)
  before_left total m c = subst (λ a. IsBefore order a (total - rest) (Some s)) (sym r.place) here
    where
      by : (b : Bool) → cond {A = ℕ} (not b && true) 1 0 ≡ cond b 0 1
      by true = refl
      by false = refl

      here : IsBefore order (suc k) (total - rest) (Some s)
      here t = before k order these first left rest s u to_suc total m t ∙ ap (λ n. (total - rest) + n) (rw c (by (whose t == s)))

  pub before_free : (total : ℕ) → total ≡ switches order → comes s these ≡ false → IsBefore order at (total - rest) None
  before_free total m c = subst (λ a. IsBefore order a (total - rest) None) (sym r.place) here
    where
      by : (b : Bool) → cond {A = ℕ} (not b && false) 1 0 ≡ 0
      by true = refl
      by false = refl

      here : IsBefore order (suc k) (total - rest) None
      here t = before k order these first left rest s u to_suc total m t ∙ ap (λ n. (total - rest) + n) (rw c (by (whose t == s)))

-- before the first step nothing is spent
pub before_first : (order : List Step) → IsBefore order 0 0 None
before_first [] t = refl
before_first (s ∷ order) t = refl
