-- What leaves an order at a place, and at each from one on.
use Rattle.std.specs.Prelude.{length, drop, take, map, not, ◌&&◌, ◌||◌, ◌==◌}
use Rattle.std.specs.List.{Contains, list_all}
use Rattle.std.proofs.Common.{◌≡◌, ◌++◌, ◌+◌, ◌<◌, ◌≤◌, ◌⊎◌, ℕ, zero, suc, inl, inr, Bool, true, false, cond, List, [], ◌∷◌, Option, refl, sym, ap, ◌∙◌, subst, arith, append_assoc, append-nil}
use Rattle.std.proofs.lemmas.Bool.{false≢true}
use Rattle.std.proofs.lemmas.List.{map-append}
use Rattle.std.proofs.lemmas.List.Folds.{list_any-append}
use Rattle.std.proofs.lemmas.List.Elements.{Contains-append_left, Contains-append_right, Contains-append_cases, Contains-push, Contains-push_cases}
use Rattle.hib_base.proofs.Tables.{Tested, tested}
use Rattle.hib_order_law.specs.Orders.{begins, comes, cost, is_kill_step, same_step}
use Rattle.hib_order_law.specs.Search.{begun_by}
use Rattle.hib_order_law.specs.declared.step.Step.{Step}
use Rattle.hib_order_law.specs.declared.step.Turn.{Turn}
use Rattle.hib_order_law.proofs.Begun.{Begins, begins_so, is_step, so_begins, step_is}
use Rattle.hib_order_law.proofs.Tally.{Contains-none, begun_by-append, begun_by-none}
use Rattle.hib_order_tries.specs.Tail.{AreOwn, IsTail, count_of}
use Rattle.hib_order_tries.specs.Left.{AreBeside, AreLeft, AreLeftBy, AreOpen, IsAdded, IsBeside, IsLeft, first_of, has_step, is_at, may_come}

or_true : (a : Bool) → (a || (true || false)) ≡ true
or_true true = refl
or_true false = refl

has-append : (t : Step) (xs ys : List Step) → has_step t (xs ++ ys) ≡ (has_step t xs || has_step t ys)
has-append t xs ys = list_any-append (λ s. same_step s t) xs ys

has_before : (t : Step) (these : List Step) (more : List Step) → has_step t these ≡ true → has_step t (these ++ more) ≡ true
has_before t these more c = has-append t these more ∙ rw c refl

has_last : (these : List Step) (s : Step) → has_step s (these ++ s ∷ []) ≡ true
has_last these s = has-append s these (s ∷ []) ∙ rw (is_step s s refl) (or_true (has_step s these))

has_cases : (t : Step) (these : List Step) (s : Step) → has_step t (these ++ s ∷ []) ≡ true → (has_step t these ≡ true) ⊎ (s ≡ t)
has_cases t these s c = by (tested (has_step t these)) (sym (has-append t these (s ∷ [])) ∙ c)
  where
    plain : (b : Bool) → (false || (b || false)) ≡ true → b ≡ true
    plain true p = refl
    plain false p = p

    by : Tested (has_step t these) → (has_step t these || (same_step s t || false)) ≡ true → (has_step t these ≡ true) ⊎ (s ≡ t)
    by (inl p) q = inl p
    by (inr p) q = inr (step_is s t (plain (same_step s t) (subst (λ b. (b || (same_step s t || false)) ≡ true) p q)))

module _ (level at : ℕ) (order : List Step) where
  pub left_none : AreLeftBy level at order [] [] false
  left_none = record {
    each = λ other c. absurd (Contains-none other c);
    once = λ both. omega arith;
    all = λ other x. absurd (false≢true x.3);
    more = λ p. absurd (false≢true p);
  }

  wider : (these : List Step) (s : Step) (other : List Step) → IsLeft order at these other → IsLeft order at (these ++ s ∷ []) other
  wider these s other x = (x.0, x.1, x.2, has_before x.0 these (s ∷ []) x.3)

  -- with one more session, it leaves for one of those before or for that one
  left_cases : (these : List Step) (s : Step) (other : List Step) → IsLeft order at (these ++ s ∷ []) other →
      IsLeft order at these other ⊎ ((other ≡ first_of order at s) × (is_at order at s ≡ false))
  left_cases these s other x = by (has_cases x.0 these s x.3)
    where
      by : (has_step x.0 these ≡ true) ⊎ (s ≡ x.0) → IsLeft order at these other ⊎ ((other ≡ first_of order at s) × (is_at order at s ≡ false))
      by (inl c) = inl (x.0, x.1, x.2, c)
      by (inr p) = inr (x.1 ∙ ap (λ i. first_of order at i) (sym p), subst (λ i. is_at order at i ≡ false) (sym p) x.2)

  map_more : (both these : List Step) (s : Step) →
      begun_by both (map (first_of order at) (these ++ s ∷ [])) ≡ begun_by both (map (first_of order at) these) + (cond (begins (first_of order at s) both) 1 0 + 0)
  map_more both these s = ap (λ l. begun_by both l) (map-append (first_of order at) these (s ∷ [])) ∙ begun_by-append both (map (first_of order at) these) (first_of order at s ∷ [])

  module _ (these : List Step) (s : Step) (there : List (List Step)) (beyond : Bool) (f : AreLeftBy level at order these there beyond) where
    each_before : (other : List Step) → Contains there other → IsLeft order at (these ++ s ∷ []) other × (cost order other ≤ level)
    each_before other c = (wider these s other (f.each other c).0, (f.each other c).1)

    more_before : beyond ≡ true → (other : List Step) × IsLeft order at (these ++ s ∷ []) other × (level < cost order other)
    more_before p = let x = f.more p in (x.0, wider these s x.0 x.1, x.2)

    once_before : (both : List Step) → begun_by both there ≤ begun_by both (map (first_of order at) (these ++ s ∷ []))
    once_before both =
        more (begun_by both there) (begun_by both (map (first_of order at) these)) (cond (begins (first_of order at s) both) 1 0)
        (begun_by both (map (first_of order at) (these ++ s ∷ []))) (f.once both) (map_more both these s)
      where
        more : (n m d x : ℕ) → n ≤ m → x ≡ m + (d + 0) → n ≤ x
        more n m d x p q = omega arith

    -- the session of the step itself isn't another's
    left_same : is_at order at s ≡ true → AreLeftBy level at order (these ++ s ∷ []) there beyond
    left_same e = record {
      each = each_before;
      once = once_before;
      all = λ other x. all other (left_cases these s other x);
      more = more_before;
    }
      where
        all : (other : List Step) → IsLeft order at these other ⊎ ((other ≡ first_of order at s) × (is_at order at s ≡ false)) →
            Contains there other ⊎ ((level < cost order other) × (beyond ≡ true))
        all other (inl x) = f.all other x
        all other (inr x) = absurd (false≢true (sym x.1 ∙ e))

    -- another session's first steps are there if they cost no more than the level
    left_there : is_at order at s ≡ false → cost order (first_of order at s) ≤ level →
        AreLeftBy level at order (these ++ s ∷ []) (there ++ first_of order at s ∷ []) beyond
    left_there e l = record {
      each = λ other c. each other (Contains-push_cases there (first_of order at s) other c);
      once = λ both. more (begun_by both (there ++ first_of order at s ∷ [])) (begun_by both there) (begun_by both (map (first_of order at) these))
          (cond (begins (first_of order at s) both) 1 0) (begun_by both (map (first_of order at) (these ++ s ∷ []))) (f.once both) (map_more both these s)
          (begun_by-append both there (first_of order at s ∷ []));
      all = λ other x. all other (left_cases these s other x);
      more = more_before;
    }
      where
        more : (n' n m d x : ℕ) → n ≤ m → x ≡ m + (d + 0) → n' ≡ n + (d + 0) → n' ≤ x
        more n' n m d x p q r = omega arith

        each : (other : List Step) → Contains there other ⊎ (first_of order at s ≡ other) → IsLeft order at (these ++ s ∷ []) other × (cost order other ≤ level)
        each other (inl c) = each_before other c
        each other (inr p) = ((s, sym p, e, has_last these s), subst (λ o. cost order o ≤ level) p l)

        before : (other : List Step) → Contains there other ⊎ ((level < cost order other) × (beyond ≡ true)) →
            Contains (there ++ first_of order at s ∷ []) other ⊎ ((level < cost order other) × (beyond ≡ true))
        before other (inl c) = inl (Contains-append_left there (first_of order at s ∷ []) other c)
        before other (inr x) = inr x

        all : (other : List Step) → IsLeft order at these other ⊎ ((other ≡ first_of order at s) × (is_at order at s ≡ false)) →
            Contains (there ++ first_of order at s ∷ []) other ⊎ ((level < cost order other) × (beyond ≡ true))
        all other (inl x) = before other (f.all other x)
        all other (inr x) = inl (subst (λ o. Contains (there ++ first_of order at s ∷ []) o) (sym x.0) (Contains-push there (first_of order at s)))

    -- and else it is told that there are such
    left_beyond : is_at order at s ≡ false → level < cost order (first_of order at s) → AreLeftBy level at order (these ++ s ∷ []) there true
    left_beyond e l = record {
      each = each_before;
      once = once_before;
      all = λ other x. all other (left_cases these s other x);
      more = λ p. (first_of order at s, (s, refl, e, has_last these s), l);
    }
      where
        before : (other : List Step) → Contains there other ⊎ ((level < cost order other) × (beyond ≡ true)) →
            Contains there other ⊎ ((level < cost order other) × (true ≡ true))
        before other (inl c) = inl c
        before other (inr x) = inr (x.0, refl)

        all : (other : List Step) → IsLeft order at these other ⊎ ((other ≡ first_of order at s) × (is_at order at s ≡ false)) →
            Contains there other ⊎ ((level < cost order other) × (true ≡ true))
        all other (inl x) = before other (f.all other x)
        all other (inr x) = inr (subst (λ o. level < cost order o) (sym x.0) l, refl)

  -- those of no session were added
  pub none_added : (there : List (List Step)) (beyond : Bool) → AreLeft level at order [] there beyond there beyond
  none_added there beyond = ([], false, left_none, sym (append-nil there), by beyond)
    where
      by : (b : Bool) → b ≡ (b || false)
      by true = refl
      by false = refl

  pub same_added : (these : List Step) (s : Step) (there now : List (List Step)) (beyond now_beyond : Bool) → AreLeft level at order these there beyond now now_beyond →
      is_at order at s ≡ true → AreLeft level at order (these ++ s ∷ []) there beyond now now_beyond
  same_added these s there now beyond now_beyond x e = (x.0, x.1, left_same these s x.0 x.1 x.2 e, x.3, x.4)

  pub one_added : (these : List Step) (s : Step) (there now new : List (List Step)) (beyond now_beyond new_beyond : Bool) → AreLeft level at order these there beyond now now_beyond →
      is_at order at s ≡ false → IsAdded level (cost order (first_of order at s)) (first_of order at s) now now_beyond new new_beyond →
      AreLeft level at order (these ++ s ∷ []) there beyond new new_beyond
  one_added these s there now new beyond now_beyond new_beyond x e (inl a) =
      (x.0 ++ first_of order at s ∷ [], x.1, left_there these s x.0 x.1 x.2 e a.0, a.1 ∙ ap (λ l. l ++ first_of order at s ∷ []) x.3 ∙ append_assoc there x.0 (first_of order at s ∷ []), a.2 ∙ x.4)
  one_added these s there now new beyond now_beyond new_beyond x e (inr a) = (x.0, true, left_beyond these s x.0 x.1 x.2 e a.0, a.1 ∙ x.3, a.2 ∙ by beyond)
    where
      by : (b : Bool) → true ≡ (b || true)
      by true = refl
      by false = refl

  -- those of some steps and those of others were added
  module _ (these more : List Step) (there later_ones : List (List Step)) (beyond cut : Bool) (a : AreLeftBy level at order these there beyond) (b : AreLeftBy level at order more later_ones cut) where
    first_left : (other : List Step) → IsLeft order at these other → IsLeft order at (these ++ more) other
    first_left other x = (x.0, x.1, x.2, has_before x.0 these more x.3)

    then_left : (other : List Step) → IsLeft order at more other → IsLeft order at (these ++ more) other
    then_left other x = (x.0, x.1, x.2, has-append x.0 these more ∙ rw x.3 (or_last (has_step x.0 these)))
      where
        or_last : (c : Bool) → (c || true) ≡ true
        or_last true = refl
        or_last false = refl

    one_left : (other : List Step) → IsLeft order at (these ++ more) other → IsLeft order at these other ⊎ IsLeft order at more other
    one_left other x = by (tested (has_step x.0 these)) (sym (has-append x.0 these more) ∙ x.3)
      where
        by : Tested (has_step x.0 these) → (has_step x.0 these || has_step x.0 more) ≡ true → IsLeft order at these other ⊎ IsLeft order at more other
        by (inl p) q = inl (x.0, x.1, x.2, p)
        by (inr p) q = inr (x.0, x.1, x.2, subst (λ c. (c || has_step x.0 more) ≡ true) p q)

    left_both : AreLeftBy level at order (these ++ more) (there ++ later_ones) (beyond || cut)
    left_both = record {
      each = λ other c. each other (Contains-append_cases there later_ones other c);
      once = λ both. sum (begun_by both (there ++ later_ones)) (begun_by both there) (begun_by both later_ones) (begun_by both (map (first_of order at) these))
          (begun_by both (map (first_of order at) more)) (begun_by both (map (first_of order at) (these ++ more))) (begun_by-append both there later_ones)
          (ap (λ l. begun_by both l) (map-append (first_of order at) these more) ∙ begun_by-append both (map (first_of order at) these) (map (first_of order at) more)) (a.once both) (b.once both);
      all = λ other x. all other (one_left other x);
      more = λ p. told (tested beyond) p;
    }
      where
        sum : (n x y k l m : ℕ) → n ≡ x + y → m ≡ k + l → x ≤ k → y ≤ l → n ≤ m
        sum n x y k l m e1 e2 e3 e4 = omega arith

        each : (other : List Step) → Contains there other ⊎ Contains later_ones other → IsLeft order at (these ++ more) other × (cost order other ≤ level)
        each other (inl c) = (first_left other (a.each other c).0, (a.each other c).1)
        each other (inr c) = (then_left other (b.each other c).0, (b.each other c).1)

        left : (c d : Bool) → c ≡ true → (c || d) ≡ true
        left true d p = refl
        left false d p = absurd (false≢true p)

        right : (c d : Bool) → d ≡ true → (c || d) ≡ true
        right true d p = refl
        right false d p = p

        later : (other : List Step) → Contains there other ⊎ ((level < cost order other) × (beyond ≡ true)) →
            Contains (there ++ later_ones) other ⊎ ((level < cost order other) × ((beyond || cut) ≡ true))
        later other (inl c) = inl (Contains-append_left there later_ones other c)
        later other (inr x) = inr (x.0, left beyond cut x.1)

        now : (other : List Step) → Contains later_ones other ⊎ ((level < cost order other) × (cut ≡ true)) →
            Contains (there ++ later_ones) other ⊎ ((level < cost order other) × ((beyond || cut) ≡ true))
        now other (inl c) = inl (Contains-append_right there later_ones other c)
        now other (inr x) = inr (x.0, right beyond cut x.1)

        all : (other : List Step) → IsLeft order at these other ⊎ IsLeft order at more other →
            Contains (there ++ later_ones) other ⊎ ((level < cost order other) × ((beyond || cut) ≡ true))
        all other (inl x) = later other (a.all other x)
        all other (inr x) = now other (b.all other x)

        told : Tested beyond → (beyond || cut) ≡ true → (other : List Step) × IsLeft order at (these ++ more) other × (level < cost order other)
        told (inl p) q = let x = a.more p in (x.0, first_left x.0 x.1, x.2)
        told (inr p) q = let x = b.more (subst (λ c. (c || cut) ≡ true) p q) in (x.0, then_left x.0 x.1, x.2)

  pub both_added : (these more : List Step) (there now new : List (List Step)) (beyond now_beyond new_beyond : Bool) → AreLeft level at order these there beyond now now_beyond →
      AreLeft level at order more now now_beyond new new_beyond → AreLeft level at order (these ++ more) there beyond new new_beyond
  both_added these more there now new beyond now_beyond new_beyond x y =
      (x.0 ++ y.0, x.1 || y.1, left_both these more x.0 y.0 x.1 y.1 x.2 y.2, y.3 ∙ ap (λ l. l ++ y.0) x.3 ∙ append_assoc there x.0 y.0, y.4 ∙ ap (λ b. b || y.1) x.4 ∙ or_assoc beyond x.1 y.1)
    where
      or_assoc : (a b c : Bool) → ((a || b) || c) ≡ (a || (b || c))
      or_assoc true b c = refl
      or_assoc false b c = refl

abbrev pub count_step : Step → List Step → ℕ
count_step t [] = 0
count_step t (s ∷ ss) = cond (same_step s t) 1 0 + count_step t ss

count_step-append : (t : Step) (xs ys : List Step) → count_step t (xs ++ ys) ≡ count_step t xs + count_step t ys
count_step-append t [] ys = omega arith
count_step-append t (x ∷ xs) ys = more (cond (same_step x t) 1 0) (count_step t (xs ++ ys)) (count_step t xs) (count_step t ys) (count_step-append t xs ys)
  where
    more : (c a x y : ℕ) → a ≡ x + y → c + a ≡ (c + x) + y
    more c a x y p = omega arith

own_has : (s : ℕ) (xs : List Step) → list_all (λ t. not (is_kill_step t)) xs ≡ true →
    (has_step (Step.Own s) xs ≡ comes s xs) × (has_step (Step.Kill s) xs ≡ false) × (count_step (Step.Own s) xs ≡ count_of s xs) × (count_step (Step.Kill s) xs ≡ 0)
own_has s [] a = (refl, refl, refl, refl)
own_has s (Step.Own n ∷ xs) a =
    let i = own_has s xs a in
    (ap (λ b. (n == s) || b) i.0, i.1, ap (λ k. cond (n == s) 1 0 + k) i.2, zero_more (count_step (Step.Kill s) xs) i.3)
  where
    zero_more : (n : ℕ) → n ≡ 0 → 0 + n ≡ 0
    zero_more n p = omega arith
own_has s (Step.Kill n ∷ xs) a = absurd (false≢true a)

kill_has : (s : ℕ) (xs : List Step) → list_all is_kill_step xs ≡ true →
    (has_step (Step.Kill s) xs ≡ comes s xs) × (has_step (Step.Own s) xs ≡ false) × (count_step (Step.Kill s) xs ≡ count_of s xs) × (count_step (Step.Own s) xs ≡ 0)
kill_has s [] a = (refl, refl, refl, refl)
kill_has s (Step.Kill n ∷ xs) a =
    let i = kill_has s xs a in
    (ap (λ b. (n == s) || b) i.0, i.1, ap (λ k. cond (n == s) 1 0 + k) i.2, zero_more (count_step (Step.Own s) xs) i.3)
  where
    zero_more : (n : ℕ) → n ≡ 0 → 0 + n ≡ 0
    zero_more n p = omega arith
kill_has s (Step.Own n ∷ xs) a = absurd (false≢true a)

-- a step of each session that comes later, and the kill of each that is open
module _ (may_kill : Bool) (order : List Step) (turns : List Turn) (at : ℕ) (own kill : List Step) (f : (s : ℕ) → comes s own ≡ comes s (drop at order)) (o : AreOwn own)
    (k : AreOpen may_kill order turns at kill) where
  all_come : (t : Step) → has_step t (own ++ kill) ≡ may_come may_kill order turns at t
  all_come (Step.Own s) = has-append (Step.Own s) own kill ∙ rw ((own_has s own o.own).0, (kill_has s kill k.each.kill).1) (plain (comes s own) ∙ f s)
    where
      plain : (b : Bool) → (b || false) ≡ b
      plain true = refl
      plain false = refl
  all_come (Step.Kill s) = has-append (Step.Kill s) own kill ∙ rw ((own_has s own o.own).1, (kill_has s kill k.each.kill).0) (k.all s)

  once_each : (t : Step) → count_step t (own ++ kill) ≤ 1
  once_each (Step.Own s) =
      sum (count_step (Step.Own s) (own ++ kill)) (count_step (Step.Own s) own) (count_step (Step.Own s) kill) (count_of s own) (count_step-append (Step.Own s) own kill) (own_has s own o.own).2
      (kill_has s kill k.each.kill).3 (o.once s)
    where
      sum : (n x y k : ℕ) → n ≡ x + y → x ≡ k → y ≡ 0 → k ≤ 1 → n ≤ 1
      sum n x y k p q r l = omega arith
  once_each (Step.Kill s) =
      sum (count_step (Step.Kill s) (own ++ kill)) (count_step (Step.Kill s) own) (count_step (Step.Kill s) kill) (count_of s kill) (count_step-append (Step.Kill s) own kill)
      (kill_has s kill k.each.kill).2 (own_has s own o.own).3 (k.each.once s)
    where
      sum : (n x y k : ℕ) → n ≡ x + y → y ≡ k → x ≡ 0 → k ≤ 1 → n ≤ 1
      sum n x y k p q r l = omega arith

-- what shares a step doesn't leave there
conflict : (n : ℕ) (order both : List Step) (t : Step) → n < length order → Begins (take (suc n) order) both → Begins (first_of order n t) both → is_at order n t ≡ false → ⊥
conflict n [] both t l b c d = no n l
  where
    no : (n : ℕ) → n < 0 → ⊥
    no n l = omega arith
conflict zero (s ∷ ss) [] t l b c d = absurd b
conflict zero (s ∷ ss) (u ∷ us) t l b c d = false≢true (sym d ∙ is_step s t (b.0 ∙ sym c.0))
conflict (suc n) (s ∷ ss) [] t l b c d = absurd b
conflict (suc n) (s ∷ ss) (u ∷ us) t l b c d = conflict n ss us t (omega arith) b.1 c.1 d

-- what leaves later shares the steps before
shares : (n at : ℕ) (order more both : List Step) → n ≤ at → Begins (take at order ++ more) both → Begins (take n order) both
shares zero at order more both l b = tt
shares (suc n) at [] more both l b = tt
shares (suc n) zero (s ∷ order) more both l b = absurd (no n l)
  where
    no : (n : ℕ) → suc n ≤ 0 → ⊥
    no n l = omega arith
shares (suc n) (suc at) (s ∷ order) more [] l b = absurd b
shares (suc n) (suc at) (s ∷ order) more (u ∷ both) l b = (b.0, shares n at order more both (omega arith) b.1)

-- the first steps for steps of which each stands there once: an order begins with one of them at most
one_by : (n : ℕ) (order both : List Step) (s : Step) (these : List Step) → begins (first_of order n s) both ≡ true → begun_by both (map (first_of order n) these) ≤ count_step s these
one_by n order both s [] b = omega arith
one_by n order both s (t ∷ these) b = by (tested (begins (first_of order n t) both)) (one_by n order both s these b)
  where
    same : (k : ℕ) (xs os : List Step) → Begins (take k xs ++ s ∷ []) os → Begins (take k xs ++ t ∷ []) os → t ≡ s
    same zero xs [] b c = absurd b
    same zero xs (o ∷ os) b c = c.0 ∙ sym b.0
    same (suc k) [] [] b c = absurd b
    same (suc k) [] (o ∷ os) b c = c.0 ∙ sym b.0
    same (suc k) (x ∷ xs) [] b c = absurd b
    same (suc k) (x ∷ xs) (o ∷ os) b c = same k xs os b.1 c.1

    more : (a c d : ℕ) → a ≤ c → 0 + a ≤ d + c
    more a c d l = omega arith

    one : (a c : ℕ) → a ≤ c → 1 + a ≤ 1 + c
    one a c l = omega arith

    by : Tested (begins (first_of order n t) both) → begun_by both (map (first_of order n) these) ≤ count_step s these →
        cond (begins (first_of order n t) both) 1 0 + begun_by both (map (first_of order n) these) ≤ cond (same_step t s) 1 0 + count_step s these
    by (inl p) i =
        rw (p, is_step t s (same n order both (begins_so (first_of order n s) both b) (begins_so (first_of order n t) both p)))
        (one (begun_by both (map (first_of order n) these)) (count_step s these) i)
    by (inr p) i = rw p (more (begun_by both (map (first_of order n) these)) (count_step s these) (cond (same_step t s) 1 0) i)

one_at_most : (n : ℕ) (order both these : List Step) → ((s : Step) → count_step s these ≤ 1) → begun_by both (map (first_of order n) these) ≤ 1
one_at_most n order both [] f = omega arith
one_at_most n order both (t ∷ these) f = by (tested (begins (first_of order n t) both)) (one_at_most n order both these (λ s. less (cond (same_step t s) 1 0) (count_step s these) (f s)))
  where
    less : (a c : ℕ) → a + c ≤ 1 → c ≤ 1
    less a c l = omega arith

    zero' : (a : ℕ) → a ≤ 1 → 0 + a ≤ 1
    zero' a l = omega arith

    chain : (a b : ℕ) → a ≤ b → b ≤ 1 → a ≤ 1
    chain a b p q = omega arith

    by : Tested (begins (first_of order n t) both) → begun_by both (map (first_of order n) these) ≤ 1 → cond (begins (first_of order n t) both) 1 0 + begun_by both (map (first_of order n) these) ≤ 1
    by (inl p) i = chain (begun_by both (map (first_of order n) (t ∷ these))) (count_step t (t ∷ these)) (one_by n order both t (t ∷ these) p) (f t)
    by (inr p) i = rw p (zero' (begun_by both (map (first_of order n) these)) i)

cases_le : (n m : ℕ) → n ≤ m → (n ≡ m) ⊎ (suc n ≤ m)
cases_le zero zero l = inl refl
cases_le zero (suc m) l = inr (omega arith)
cases_le (suc n) zero l = absurd (no n l)
  where
    no : (n : ℕ) → suc n ≤ 0 → ⊥
    no n l = omega arith
cases_le (suc n) (suc m) l = by (cases_le n m (omega arith))
  where
    by : (n ≡ m) ⊎ (suc n ≤ m) → (suc n ≡ suc m) ⊎ (suc (suc n) ≤ suc m)
    by (inl p) = inl (ap (λ k. suc k) p)
    by (inr p) = inr (omega arith)

-- no other order leaves one after its end
pub beside_none : (may_kill : Bool) (level n : ℕ) (order : List Step) (turns : List Turn) → length order < n → AreBeside may_kill level n order turns [] false
beside_none may_kill level n order turns l = record {
  each = λ other c. absurd (Contains-none other c);
  once = λ both. omega arith;
  all = λ other b. absurd (no (length order) n b.at l b.later b.inside);
  more = λ p. absurd (false≢true p);
}
  where
    no : (o n k : ℕ) → o < n → n ≤ k → k ≤ o → ⊥
    no o n k p q r = omega arith

-- those from the next place on, and those at a place, are those from that place on
module _ (may_kill : Bool) (level n : ℕ) (order : List Step) (turns : List Turn) (these : List Step) (there here : List (List Step)) (beyond cut : Bool) (l : n ≤ length order)
    (f : (t : Step) → has_step t these ≡ may_come may_kill order turns n t) (g : (t : Step) → count_step t these ≤ 1) (a : AreBeside may_kill level (suc n) order turns there beyond)
    (b : AreLeftBy level n order these here cut) where
  abbrev From : ℕ → List Step → Type 0
  From k other = IsBeside may_kill k order turns other

  left_beside : (other : List Step) → IsLeft order n these other → From n other
  left_beside other x = record { at = n; step = x.0; later = omega arith; inside = l; is = x.1; apart = x.2; due = sym (f x.0) ∙ x.3 }

  next_beside : (other : List Step) → From (suc n) other → From n other
  next_beside other x = record { at = x.at; step = x.step; later = less x.at x.later; inside = x.inside; is = x.is; apart = x.apart; due = x.due }
    where
      less : (k : ℕ) → suc n ≤ k → n ≤ k
      less k p = omega arith

  beside_cases : (other : List Step) → From n other → From (suc n) other ⊎ IsLeft order n these other
  beside_cases other x = by (cases_le n x.at x.later)
    where
      by : (n ≡ x.at) ⊎ (suc n ≤ x.at) → From (suc n) other ⊎ IsLeft order n these other
      by (inl p) = inr (
        x.step,
        x.is ∙ ap (λ k. first_of order k x.step) (sym p),
        subst (λ k. is_at order k x.step ≡ false) (sym p) x.apart,
        f x.step ∙ subst (λ k. may_come may_kill order turns k x.step ≡ true) (sym p) x.due,
      )
      by (inr p) = inl (record { at = x.at; step = x.step; later = p; inside = x.inside; is = x.is; apart = x.apart; due = x.due })

  each : (other : List Step) → Contains (there ++ here) other → From n other × (cost order other ≤ level)
  each other c = by (Contains-append_cases there here other c)
    where
      by : Contains there other ⊎ Contains here other → From n other × (cost order other ≤ level)
      by (inl x) = (next_beside other (a.each other x).0, (a.each other x).1)
      by (inr x) = (left_beside other (b.each other x).0, (b.each other x).1)

  next_shares : (other both : List Step) → From (suc n) other → begins other both ≡ true → begins (take (suc n) order) both ≡ true
  next_shares other both x c =
      so_begins (take (suc n) order) both (shares (suc n) x.at order (x.step ∷ []) both x.later (subst (λ o. Begins o both) x.is (begins_so other both c)))

  leaves_not : n < length order → (other both : List Step) → begins (take (suc n) order) both ≡ true → IsLeft order n these other → begins other both ≡ true → ⊥
  leaves_not i other both p x c =
      conflict n order both x.0 i (begins_so (take (suc n) order) both p) (begins_so (first_of order n x.0) both (subst (λ o. begins o both ≡ true) x.1 c)) x.2

  once : (both : List Step) → begun_by both (there ++ here) ≤ 1
  once both = rw (begun_by-append both there here) (by (tested (begins (take (suc n) order) both)) (cases_le n (length order) l))
    where
      first : (x y : ℕ) → x ≤ 1 → y ≡ 0 → x + y ≤ 1
      first x y p q = omega arith

      second : (x y m : ℕ) → x ≡ 0 → y ≤ m → m ≤ 1 → x + y ≤ 1
      second x y m p q r = omega arith

      no : (o k : ℕ) → n ≡ o → suc n ≤ k → k ≤ o → ⊥
      no o k p q r = omega arith

      here_alone : begun_by both there ≡ 0 → begun_by both there + begun_by both here ≤ 1
      here_alone z = second (begun_by both there) (begun_by both here) (begun_by both (map (first_of order n) these)) z (b.once both) (one_at_most n order both these g)

      none_next : n ≡ length order → (other : List Step) → From (suc n) other → ⊥
      none_next q other x = no (length order) x.at q x.later x.inside

      less : (k : ℕ) → suc n ≤ k → n < k
      less k p = omega arith

      by : Tested (begins (take (suc n) order) both) → (n ≡ length order) ⊎ (suc n ≤ length order) → begun_by both there + begun_by both here ≤ 1
      by t (inl q) = here_alone (begun_by-none both there (λ other c x. none_next q other (a.each other c).0))
      by (inl p) (inr q) =
          first (begun_by both there) (begun_by both here) (a.once both)
          (begun_by-none both here (λ other c x. leaves_not (less (length order) q) other both p (b.each other c).0 x))
      by (inr p) (inr q) = here_alone (begun_by-none both there (λ other c x. false≢true (sym p ∙ next_shares other both (a.each other c).0 x)))

  beside_more : AreBeside may_kill level n order turns (there ++ here) (beyond || cut)
  beside_more = record {
    each = each;
    once = once;
    all = λ other o. all other (beside_cases other o);
    more = λ p. more (tested beyond) p;
  }
    where
      left : (c d : Bool) → c ≡ true → (c || d) ≡ true
      left true d p = refl
      left false d p = absurd (false≢true p)

      right : (c d : Bool) → d ≡ true → (c || d) ≡ true
      right true d p = refl
      right false d p = p

      later : (other : List Step) → Contains there other ⊎ ((level < cost order other) × (beyond ≡ true)) →
          Contains (there ++ here) other ⊎ ((level < cost order other) × ((beyond || cut) ≡ true))
      later other (inl c) = inl (Contains-append_left there here other c)
      later other (inr x) = inr (x.0, left beyond cut x.1)

      now : (other : List Step) → Contains here other ⊎ ((level < cost order other) × (cut ≡ true)) →
          Contains (there ++ here) other ⊎ ((level < cost order other) × ((beyond || cut) ≡ true))
      now other (inl c) = inl (Contains-append_right there here other c)
      now other (inr x) = inr (x.0, right beyond cut x.1)

      all : (other : List Step) → From (suc n) other ⊎ IsLeft order n these other → Contains (there ++ here) other ⊎ ((level < cost order other) × ((beyond || cut) ≡ true))
      all other (inl o) = later other (a.all other o)
      all other (inr x) = now other (b.all other x)

      more : Tested beyond → (beyond || cut) ≡ true → (other : List Step) × From n other × (level < cost order other)
      more (inl p) q = let x = a.more p in (x.0, next_beside x.0 x.1, x.2)
      more (inr p) q = let x = b.more (subst (λ c. (c || cut) ≡ true) p q) in (x.0, left_beside x.0 x.1, x.2)

pub beside_added : (may_kill : Bool) (level n : ℕ) (order : List Step) (turns : List Turn) (own kill : List Step) (first : Option ℕ) (left : ℕ) (there new : List (List Step))
    (beyond new_beyond : Bool) → n ≤ length order → IsTail (drop n order) own first left → AreOpen may_kill order turns n kill → AreBeside may_kill level (suc n) order turns there beyond →
    AreLeft level n order (own ++ kill) there beyond new new_beyond → AreBeside may_kill level n order turns new new_beyond
beside_added may_kill level n order turns own kill first left there new beyond new_beyond l t k a x =
    subst (λ y. AreBeside may_kill level n order turns y new_beyond) (sym x.3)
    (subst (λ y. AreBeside may_kill level n order turns (there ++ x.0) y) (sym x.4)
    (beside_more may_kill level n order turns (own ++ kill) there x.0 beyond x.1 l (all_come may_kill order turns n own kill t.all t.each k) (once_each may_kill order turns n own kill t.all t.each k) a x.2))
