-- An order that begins so, step by step.
use Rattle.std.specs.Prelude.{◌&&◌}
use Rattle.std.proofs.Common.{◌≡◌, Bool, true, false, List, [], ◌∷◌, refl, ap, eq-eqb}
use Rattle.std.proofs.lemmas.Bool.{false≢true, eqb-true}
use Rattle.hib_order_law.specs.Orders.{begins, same_step}
use Rattle.hib_order_law.specs.Search.{same_order}
use Rattle.hib_order_law.specs.declared.step.Step.{Step}

pub and_left : (a b : Bool) → (a && b) ≡ true → a ≡ true
and_left true b p = refl
and_left false b p = p

pub and_right : (a b : Bool) → (a && b) ≡ true → b ≡ true
and_right true b p = p
and_right false b p = absurd (false≢true p)

pub and_both : (a b : Bool) → a ≡ true → b ≡ true → (a && b) ≡ true
and_both true true p q = refl
and_both true false p q = q
and_both false b p q = p

pub step_is : (s t : Step) → same_step s t ≡ true → s ≡ t
step_is (Step.Own s) (Step.Own t) p = ap Step.Own (eqb-true s t p)
step_is (Step.Own s) (Step.Kill t) p = absurd (false≢true p)
step_is (Step.Kill s) (Step.Own t) p = absurd (false≢true p)
step_is (Step.Kill s) (Step.Kill t) p = ap Step.Kill (eqb-true s t p)

own_step : (s : Step) → same_step s s ≡ true
own_step (Step.Own s) = eq-eqb s s refl
own_step (Step.Kill s) = eq-eqb s s refl

pub is_step : (s t : Step) → s ≡ t → same_step s t ≡ true
is_step s t p = rw p (own_step t)

abbrev pub Begins : List Step → List Step → Type 0
Begins [] order = Unit {0}
Begins (s ∷ ss) [] = ⊥
Begins (s ∷ ss) (t ∷ ts) = (s ≡ t) × Begins ss ts

pub begins_so : (begun order : List Step) → begins begun order ≡ true → Begins begun order
begins_so [] order p = tt
begins_so (s ∷ ss) [] p = false≢true p
begins_so (s ∷ ss) (t ∷ ts) p = (step_is s t (and_left (same_step s t) (begins ss ts) p), begins_so ss ts (and_right (same_step s t) (begins ss ts) p))

pub so_begins : (begun order : List Step) → Begins begun order → begins begun order ≡ true
so_begins [] order b = refl
so_begins (s ∷ ss) [] b = absurd b
so_begins (s ∷ ss) (t ∷ ts) b = and_both (same_step s t) (begins ss ts) (is_step s t b.0) (so_begins ss ts b.1)

pub same_is : (order other : List Step) → same_order order other ≡ true → order ≡ other
same_is [] [] p = refl
same_is [] (t ∷ ts) p = absurd (false≢true p)
same_is (s ∷ ss) [] p = absurd (false≢true p)
same_is (s ∷ ss) (t ∷ ts) p = two (step_is s t (and_left (same_step s t) (same_order ss ts) p)) (same_is ss ts (and_right (same_step s t) (same_order ss ts) p))
  where
    two : {x y : Step} {xs ys : List Step} → x ≡ y → xs ≡ ys → x ∷ xs ≡ y ∷ ys
    two p q = cc

pub is_same : (order : List Step) → same_order order order ≡ true
is_same [] = refl
is_same (s ∷ ss) = and_both (same_step s s) (same_order ss ss) (is_step s s refl) (is_same ss)
