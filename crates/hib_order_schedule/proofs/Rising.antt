-- The longest tail of an order that rises.
use Rattle.std.proofs.Common.{◌≡◌, ℕ, zero, suc, ◌-◌, ◌<◌, ◌≤◌, Bool, true, false, List, [], ◌∷◌, drop, take, length, get_or, refl, sym, ap, ◌∙◌, subst, leb, arith, drop-cons, length-drop}
use Rattle.std.proofs.lemmas.Bool.{false≢true, and_parts}
use Rattle.std.proofs.lemmas.List.{take_all}
use Rattle.hib_order_law.specs.Orders.{whose}
use Rattle.hib_order_law.specs.declared.step.Step.{Step}
use Rattle.hib_order_schedule.specs.Schedules.{rises, before_tail}

-- what is behind a step of an order that rises does so too
pub rises_behind : (t : Step) (ts : List Step) → rises (t ∷ ts) ≡ true → rises ts ≡ true
rises_behind (Step.Kill s) ts r = absurd (false≢true r)
rises_behind (Step.Own s) [] r = refl
rises_behind (Step.Own s) (t ∷ ts) r = (and_parts (leb s (whose t)) (rises (t ∷ ts)) r).1

pub is_false : (b : Bool) → (b ≡ true → ⊥) → b ≡ false
is_false true f = absurd (f refl)
is_false false f = refl

-- where a tail doesn't rise, the order doesn't
falls : (xs : List Step) (k : ℕ) → rises (drop k xs) ≡ false → rises xs ≡ false
falls xs zero f = f
falls [] (suc k) f = f
falls (x ∷ xs) (suc k) f = is_false (rises (x ∷ xs)) (λ r. false≢true (sym (falls xs k f) ∙ rises_behind x xs r))

-- where nothing falls there is nothing before the tail
pub all_rise : (xs : List Step) → rises xs ≡ true → before_tail xs ≡ []
all_rise [] r = refl
all_rise (x ∷ xs) r = rw r refl

-- if a tail doesn't rise and what is behind its first step does, then the longest tail that rises begins behind that
pub tail_found : (xs : List Step) (k : ℕ) → suc k ≤ length xs → rises (drop k xs) ≡ false → rises (drop (suc k) xs) ≡ true → take (suc k) xs ≡ before_tail xs
tail_found [] k l f r = absurd (omega arith)
tail_found (x ∷ xs) zero l f r = rw f (ap (λ ys. x ∷ ys) (sym (all_rise xs r)))
tail_found (x ∷ xs) (suc k) l f r =
    let e : rises (x ∷ xs) ≡ false = falls (x ∷ xs) (suc k) f in
    rw e (ap (λ ys. x ∷ ys) (tail_found xs k (omega arith) f r))

-- so at a place before which a step is that may not stand before the tail
pub tail_at : (xs : List Step) (at : ℕ) (d : Step) → 0 < at → at ≤ length xs → (b : Bool) → b ≡ rises (get_or xs (at - 1) d ∷ take (length xs - at) (drop at xs)) → b ≡ false →
    rises (drop at xs) ≡ true → take at xs ≡ before_tail xs
tail_at xs at d l m b p q r = subst (λ n. take n xs ≡ before_tail xs) e (tail_found xs (at - 1) (omega (arith, e)) no (subst (λ n. rises (drop n xs) ≡ true) (sym e) r))
  where
    e : suc (at - 1) ≡ at
    e = omega arith

    tail : take (length xs - at) (drop at xs) ≡ drop at xs
    tail = take_all (length xs - at) (drop at xs) (omega (arith, length-drop at xs))

    whole : drop (at - 1) xs ≡ get_or xs (at - 1) d ∷ drop (suc (at - 1)) xs
    whole = drop-cons xs (at - 1) d (omega arith)

    no : rises (drop (at - 1) xs) ≡ false
    no = ap rises (whole ∙ ap (λ n. get_or xs (at - 1) d ∷ drop n xs) e ∙ ap (λ ys. get_or xs (at - 1) d ∷ ys) (sym tail)) ∙ sym p ∙ q
