-- What was found, with one more run.
use Rattle.std.specs.Prelude.{count_by, IfSome, IfNone}
use Rattle.std.specs.List.{Contains}
use Rattle.std.proofs.Common.{◌≡◌, ◌+◌, ◌<◌, ◌≤◌, ◌⊎◌, ℕ, inl, inr, Bool, true, false, cond, List, ◌∷◌, Some, None, Option, sym, ap, ◌∙◌, subst, arith}
use Rattle.std.proofs.lemmas.Bool.{false≢true}
use Rattle.std.proofs.lemmas.List.Sums.{sum_by-cons}
use Rattle.hib_journal.specs.Types.{Entry}
use Rattle.hib_order_law.specs.Orders.{steps_in, switches}
use Rattle.hib_order_law.specs.declared.step.Step.{Step}
use Rattle.hib_order_law.proofs.Tally.{Contains-cases, Contains-first, Contains-behind}
use Rattle.hib_order_tries.specs.Found.{IsBelow, IsFirst, IsFound}
use Rattle.hib_order_tries.specs.declared.found.First.{First}
use Rattle.hib_order_tries.specs.declared.found.Found.{Found}

-- what a comparison with the first says
pub not_none : {A : Type 0} (o : Option A) (r : Bool) → IfNone o (r ≡ true) → r ≡ false → IfNone o ⊥
not_none None r p q = false≢true (sym q ∙ p)
not_none (Some a) r p q = p

pub no_later : (o : Option First) (total : ℕ) (r : Bool) → IfSome o (λ f. IsBelow total f.switches r) → r ≡ false → IfSome o (λ f. f.switches ≤ total)
no_later None total r p q = p
no_later (Some f) total r p q = p.1 q

pub is_earlier : (o : Option First) (total : ℕ) (r : Bool) → IfSome o (λ f. IsBelow total f.switches r) → r ≡ true → IfSome o (λ f. total ≤ f.switches)
is_earlier None total r p q = p
is_earlier (Some f) total r p q = le total f.switches (p.0 q)
  where
    le : (a b : ℕ) → a < b → a ≤ b
    le a b l = omega arith

module _ (has : List Entry → Bool) (runs : List (List Entry)) (es : List Entry) where
  count_more : (n k : ℕ) → n ≡ count_by has runs → has es ≡ true → k ≡ n + 1 → k ≡ count_by has (es ∷ runs)
  count_more n k p q r =
      let c : count_by has (es ∷ runs) ≡ cond (has es) 1 0 + count_by has runs = sum_by-cons (λ x. cond (has x) 1 0) es runs in
      let d : count_by has (es ∷ runs) ≡ 1 + count_by has runs = c ∙ ap (λ b. cond b 1 0 + count_by has runs) q in
      plain n k (count_by has runs) (count_by has (es ∷ runs)) p r d
    where
      plain : (n k c d : ℕ) → n ≡ c → k ≡ n + 1 → d ≡ 1 + c → k ≡ d
      plain n k c d p q r = omega arith

  count_same : (n : ℕ) → n ≡ count_by has runs → has es ≡ false → n ≡ count_by has (es ∷ runs)
  count_same n p q =
      let c : count_by has (es ∷ runs) ≡ cond (has es) 1 0 + count_by has runs = sum_by-cons (λ x. cond (has x) 1 0) es runs in
      let d : count_by has (es ∷ runs) ≡ 0 + count_by has runs = c ∙ ap (λ b. cond b 1 0 + count_by has runs) q in
      plain n (count_by has runs) (count_by has (es ∷ runs)) p d
    where
      plain : (n c d : ℕ) → n ≡ c → d ≡ 0 + c → n ≡ d
      plain n c d p r = omega arith

  -- the first that was found is still the first after a run that doesn't have it, or makes no fewer switches
  still_first : (order : List Step) (least : ℕ) → IsFirst has runs order least → (has es ≡ false) ⊎ (least ≤ switches (steps_in es)) → IsFirst has (es ∷ runs) order least
  still_first order least f n = (f.0, Contains-behind es runs f.0 f.1, f.2, f.3, f.4, λ ds c h. by ds (Contains-cases es runs ds c) h n)
    where
      by : (ds : List Entry) → (es ≡ ds) ⊎ Contains runs ds → has ds ≡ true → (has es ≡ false) ⊎ (least ≤ switches (steps_in es)) → least ≤ switches (steps_in ds)
      by ds (inr c) h n = f.5 ds c h
      by ds (inl p) h (inl q) = absurd (false≢true (sym q ∙ subst (λ d. has d ≡ true) (sym p) h))
      by ds (inl p) h (inr l) = subst (λ d. least ≤ switches (steps_in d)) p l

  -- a run with fewer switches than those that have it, or where none has it, comes first
  now_first : (order : List Step) (least : ℕ) → has es ≡ true → order ≡ steps_in es → least ≡ switches order →
      ((ds : List Entry) → Contains runs ds → has ds ≡ true → least ≤ switches (steps_in ds)) → IsFirst has (es ∷ runs) order least
  now_first order least h o l f = (es, Contains-first es runs, h, o, l, λ ds c k. by ds (Contains-cases es runs ds c) k)
    where
      same : least ≡ switches (steps_in es)
      same = l ∙ ap (λ x. switches x) o

      by : (ds : List Entry) → (es ≡ ds) ⊎ Contains runs ds → has ds ≡ true → least ≤ switches (steps_in ds)
      by ds (inr c) k = f ds c k
      by ds (inl p) k = subst (λ d. least ≤ switches (steps_in d)) p (plain least (switches (steps_in es)) same)
        where
          plain : (a b : ℕ) → a ≡ b → a ≤ b
          plain a b p = omega arith

  none_more : ((ds : List Entry) → Contains runs ds → has ds ≡ false) → has es ≡ false → (ds : List Entry) → Contains (es ∷ runs) ds → has ds ≡ false
  none_more f n ds c = by (Contains-cases es runs ds c)
    where
      by : (es ≡ ds) ⊎ Contains runs ds → has ds ≡ false
      by (inl p) = subst (λ d. has d ≡ false) p n
      by (inr c) = f ds c

  pub found_not : (found : Found) → IsFound has runs found → has es ≡ false → IsFound has (es ∷ runs) found
  found_not found f n = record {
    count = count_same found.count f.count n;
    first = first found.first f.first;
    none = none found.first f.none;
  }
    where
      first : (o : Option First) → IfSome o (λ f. IsFirst has runs f.order.items f.switches) → IfSome o (λ f. IsFirst has (es ∷ runs) f.order.items f.switches)
      first None x = x
      first (Some f) x = still_first f.order.items f.switches x (inl n)

      none : (o : Option First) → IfNone o ((ds : List Entry) → Contains runs ds → has ds ≡ false) → IfNone o ((ds : List Entry) → Contains (es ∷ runs) ds → has ds ≡ false)
      none None x = none_more x n
      none (Some f) x = x

  -- a run that has it, and comes after the first or before it
  pub found_later : (old new : Found) (total : ℕ) → IsFound has runs old → has es ≡ true → new.count ≡ old.count + 1 → new.first ≡ old.first → total ≡ switches (steps_in es) →
      IfNone old.first ⊥ → IfSome old.first (λ f. f.switches ≤ total) → IsFound has (es ∷ runs) new
  found_later old new total f h c e t n l = record {
    count = count_more old.count new.count f.count h c;
    first = subst (λ o. IfSome o (λ f. IsFirst has (es ∷ runs) f.order.items f.switches)) (sym e) (first old.first f.first l);
    none = subst (λ o. IfNone o ((ds : List Entry) → Contains (es ∷ runs) ds → has ds ≡ false)) (sym e) (none old.first n);
  }
    where
      first : (o : Option First) → IfSome o (λ f. IsFirst has runs f.order.items f.switches) → IfSome o (λ f. f.switches ≤ total) → IfSome o (λ f. IsFirst has (es ∷ runs) f.order.items f.switches)
      first None x k = x
      first (Some f) x k = still_first f.order.items f.switches x (inr (subst (λ n. f.switches ≤ n) t k))

      none : (o : Option First) → IfNone o ⊥ → IfNone o ((ds : List Entry) → Contains (es ∷ runs) ds → has ds ≡ false)
      none None x = absurd x
      none (Some f) x = x

  pub found_now : (old new : Found) (order : List Step) (total : ℕ) (now : First) → IsFound has runs old → has es ≡ true → new.count ≡ old.count + 1 → new.first ≡ Some now →
      now.order.items ≡ order → now.switches ≡ total → order ≡ steps_in es → total ≡ switches order → IfSome old.first (λ f. total ≤ f.switches) → IsFound has (es ∷ runs) new
  found_now old new order total now f h c e i s o t l = record {
    count = count_more old.count new.count f.count h c;
    first = subst (λ o. IfSome o (λ f. IsFirst has (es ∷ runs) f.order.items f.switches)) (sym e)
        (now_first now.order.items now.switches h (i ∙ o) (s ∙ t ∙ ap (λ x. switches x) (sym i)) (λ ds c k. subst (λ n. n ≤ switches (steps_in ds)) (sym s) (less old.first f.first f.none l ds c k)));
    none = subst (λ o. IfNone o ((ds : List Entry) → Contains (es ∷ runs) ds → has ds ≡ false)) (sym e) tt;
  }
    where
      less : (o : Option First) → IfSome o (λ f. IsFirst has runs f.order.items f.switches) → IfNone o ((ds : List Entry) → Contains runs ds → has ds ≡ false) →
          IfSome o (λ f. total ≤ f.switches) → (ds : List Entry) → Contains runs ds → has ds ≡ true → total ≤ switches (steps_in ds)
      less None x n k ds c q = absurd (false≢true (sym (n ds c) ∙ q))
      less (Some f) x n k ds c q = chain total f.switches (switches (steps_in ds)) k (x.5 ds c q)
        where
          chain : (a b c : ℕ) → a ≤ b → b ≤ c → a ≤ c
          chain a b c p q = omega arith
