-- The runs of an order, one after another.
use Rattle.std.proofs.Common.{◌≡◌, suc, ◌++◌, append_assoc, add-one, length-drop, ℕ, ◌+◌, ◌-◌, ◌<◌, ◌≤◌, take, inl, inr, true, ◌==◌, List, [], ◌∷◌, drop, length, get_or, refl, sym, ap, ◌∙◌, subst, eq-eqb, drop-cons, arith}
use Rattle.std.proofs.lemmas.Bool.{eqb-true}
use Rattle.std.proofs.lemmas.List.{drop-drop, take_all}
use Rattle.hib_base.proofs.Tables.{Tested, tested}
use Rattle.hib_journal.specs.Types.{Order}
use Rattle.hib_order_law.specs.declared.step.Step.{Step}
use Rattle.hib_order_schedule.specs.Schedules.{joined, runs_of, in_row}

-- the first run of an order, and the runs of what is left after it
pub first_run : (s : ℕ) (ts : List Step) → runs_of (Step.Own s ∷ ts) ≡ Order.Run s (in_row s ts + 1) ∷ runs_of (drop (in_row s ts) ts)
first_run s [] = refl
first_run s (Step.Kill t ∷ ts) = refl
first_run s (Step.Own t ∷ ts) = by (tested (t == s)) (first_run t ts)
  where
    by : Tested (t == s) → runs_of (Step.Own t ∷ ts) ≡ Order.Run t (in_row t ts + 1) ∷ runs_of (drop (in_row t ts) ts) →
        joined s (runs_of (Step.Own t ∷ ts)) ≡ Order.Run s (in_row s (Step.Own t ∷ ts) + 1) ∷ runs_of (drop (in_row s (Step.Own t ∷ ts)) (Step.Own t ∷ ts))
    by (inl p) e = rw (e, p) (subst (λ u. Order.Run u (in_row u ts + 1 + 1) ∷ runs_of (drop (in_row u ts) ts) ≡ Order.Run s (in_row s ts + 1 + 1) ∷ runs_of (drop (in_row s ts + 1) (Step.Own t ∷ ts))) (sym (eqb-true t s p)) (rw (add-one (in_row s ts)) refl))
    by (inr p) e = rw (e, p) (ap (λ os. Order.Run s 1 ∷ os) (sym e))

-- of the steps from a place on, if an own step of s is there
pub run_from : (xs ys : List Step) (at n s : ℕ) (d : Step) (made more : List Order) → at < length xs → get_or xs at d ≡ Step.Own s → ys ≡ take (length xs - at) (drop at xs) → n ≤ length ys →
    n ≡ in_row s ys → more ≡ made ++ Order.Run s n ∷ [] → made ++ runs_of (drop at xs) ≡ runs_of xs → (at + n ≤ length xs) × (more ++ runs_of (drop (at + n) xs) ≡ runs_of xs)
run_from xs ys at n s d made more l f y m e g h = (
  omega (arith, ap length same, length-drop at xs),
  ap (λ os. os ++ runs_of (drop (at + n) xs)) g ∙ (append_assoc made (Order.Run s n ∷ []) (runs_of (drop (at + n) xs)) ∙ (ap (λ os. made ++ os) (sym one) ∙ h)),
)
  where
    same : ys ≡ drop at xs
    same = y ∙ take_all (length xs - at) (drop at xs) (omega (arith, length-drop at xs))

    rest : List Step
    rest = drop (suc at) xs

    whole : drop at xs ≡ Step.Own s ∷ rest
    whole = drop-cons xs at d l ∙ ap (λ t. t ∷ drop (suc at) xs) f

    first : n ≡ in_row s rest + 1
    first = e ∙ ap (in_row s) (same ∙ whole) ∙ let p : (s == s) ≡ true = eq-eqb s s refl in rw p refl

    left : drop (in_row s rest) rest ≡ drop (at + n) xs
    left = drop-drop (in_row s rest) (suc at) xs ∙ ap (λ k. drop k xs) (omega (arith, first))

    one : runs_of (drop at xs) ≡ Order.Run s n ∷ runs_of (drop (at + n) xs)
    one = ap runs_of whole ∙ first_run s rest ∙ ap (λ k. Order.Run s k ∷ runs_of (drop (in_row s rest) rest)) (sym first) ∙ ap (λ ys. Order.Run s n ∷ runs_of ys) left
