-- The counts of levels and of endings, with one more run.
use Rattle.std.specs.Prelude.{count_by, ◌==◌}
use Rattle.std.proofs.Common.{◌≡◌, ◌+◌, ◌≤◌, ℕ, zero, suc, Bool, true, cond, List, [], ◌∷◌, refl, sym, ap, ◌∙◌, subst, arith, slice_index_or}
use Rattle.std.proofs.lemmas.List.Sums.{sum_by-cons}
use Rattle.hib_journal.specs.Types.{Entry, Outcome}
use Rattle.hib_order_law.specs.Orders.{steps_in, switches}
use Rattle.hib_order_tries.specs.Found.{AreApart, AreEndings, AreLevels, ended_so}
use Rattle.hib_order_tries.specs.declared.endings.Ending.{Ending}

count_more : {X : Type 0} (p : X → Bool) (x : X) (xs : List X) (n o d : ℕ) → n ≡ o + d → o ≡ count_by p xs → d ≡ cond (p x) 1 0 → n ≡ count_by p (x ∷ xs)
count_more p x xs n o d a b c = plain n o d (count_by p xs) (cond (p x) 1 0) (count_by p (x ∷ xs)) a b c (sum_by-cons (λ y. cond (p y) 1 0) x xs)
  where
    plain : (n o d c k s : ℕ) → n ≡ o + d → o ≡ c → d ≡ k → s ≡ k + c → n ≡ s
    plain n o d c k s p q r t = omega arith

none_at : (k : ℕ) → ◌≡◌ {A = ℕ} (slice_index_or [] k 0) 0
none_at zero = refl
none_at (suc k) = refl

pub no_levels : (levels : List ℕ) → levels ≡ [] → AreLevels [] levels
no_levels levels e k = ap (λ l. slice_index_or l k 0) e ∙ none_at k

pub few_levels : (levels : List ℕ) (n : ℕ) → levels ≡ [] → (k : ℕ) → slice_index_or levels k 0 ≤ n
few_levels levels n e k = few (slice_index_or levels k 0) (ap (λ l. slice_index_or l k 0) e ∙ none_at k)
  where
    few : (m : ℕ) → m ≡ 0 → m ≤ n
    few m p = omega arith

pub more_levels : (runs : List (List Entry)) (es : List Entry) (old new : List ℕ) (total : ℕ) → AreLevels runs old →
    ((k : ℕ) → slice_index_or new k 0 ≡ slice_index_or old k 0 + cond (total == k) 1 0) → total ≡ switches (steps_in es) → AreLevels (es ∷ runs) new
more_levels runs es old new total a f e k =
    count_more (λ ds. switches (steps_in ds) == k) es runs (slice_index_or new k 0) (slice_index_or old k 0) (cond (total == k) 1 0) (f k) (a k) (ap (λ n. cond (n == k) 1 0) e)

pub no_endings : (ended : List Entry → List Outcome) (endings : List Ending) → endings ≡ [] → AreEndings ended [] endings
no_endings ended endings e = subst (λ l. AreEndings ended [] l) (sym e) (record { count = λ test. refl; once = tt })

pub few_endings : (endings : List Ending) (n : ℕ) → endings ≡ [] → ended_so (λ _. true) endings ≤ n
few_endings endings n e = few (ended_so (λ _. true) endings) (ap (λ l. ended_so (λ _. true) l) e)
  where
    few : (m : ℕ) → m ≡ 0 → m ≤ n
    few m p = omega arith

pub more_endings : (ended : List Entry → List Outcome) (runs : List (List Entry)) (es : List Entry) (old new : List Ending) (outcomes : List Outcome) → AreEndings ended runs old →
    ((test : List Outcome → Bool) → ended_so test new ≡ ended_so test old + cond (test outcomes) 1 0) → (AreApart old → AreApart new) → outcomes ≡ ended es →
    AreEndings ended (es ∷ runs) new
more_endings ended runs es old new outcomes a f g e = record {
  count = λ test. count_more (λ ds. test (ended ds)) es runs (ended_so test new) (ended_so test old) (cond (test outcomes) 1 0) (f test) (a.count test) (ap (λ l. cond (test l) 1 0) e);
  once = g a.once;
}
