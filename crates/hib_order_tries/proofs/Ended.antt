-- Endings by their marks, with one more order.
use Rattle.std.specs.Prelude.{map, bytes_eq}
use Rattle.std.specs.Option.{option_map_or}
use Rattle.std.specs.List.{All, Contains}
use Rattle.std.specs.Map.{lookup}
use Rattle.std.specs.declared.alloc.Global.{Global}
use Rattle.std.specs.declared.vec.Vec.{Vec}
use Rattle.std.proofs.Common.{Some, ◌≡◌, ◌+◌, ◌<◌, ◌⊎◌, ℕ, zero, suc, inl, inr, Bool, true, false, cond, List, [], ◌∷◌, length, refl, sym, ap, ◌∙◌, subst, arith, slice_index_or}
use Rattle.std.proofs.lemmas.Bool.{false≢true}
use Rattle.std.proofs.lemmas.Slice.Eq.{bytes_eq-Decides}
use Rattle.std.proofs.lemmas.List.Sums.{sum_by-cons}
use Rattle.indexmap.specs.IndexMap.{insert_entry}
use Rattle.hib_base.proofs.Tables.{Tested, tested}
use Rattle.hib_journal.specs.Types.{Outcome}
use Rattle.hib_order_law.proofs.Tally.{Contains-behind, Contains-cases, Contains-first, Contains-none}
use Rattle.hib_order_tries.specs.Found.{AreApart, ended_so}
use Rattle.hib_order_tries.specs.Marks.{mark_of, marks_of}
use Rattle.hib_order_tries.specs.declared.endings.Ending.{Ending}

-- marks tell outcomes apart

abbrev unmarked : ℕ → Outcome
unmarked zero = Outcome.Committed
unmarked (suc zero) = Outcome.RolledBack
unmarked (suc (suc zero)) = Outcome.Stale
unmarked (suc (suc (suc zero))) = Outcome.Duplicate
unmarked (suc (suc (suc (suc n)))) = Outcome.Fault

unmarked_is : (o : Outcome) → unmarked (mark_of o) ≡ o
unmarked_is Outcome.Committed = refl
unmarked_is Outcome.RolledBack = refl
unmarked_is Outcome.Stale = refl
unmarked_is Outcome.Duplicate = refl
unmarked_is Outcome.Fault = refl

all_unmarked : (os : List Outcome) → map unmarked (marks_of os) ≡ os
all_unmarked [] = refl
all_unmarked (o ∷ os) = two (unmarked_is o) (all_unmarked os)
  where
    two : {x y : Outcome} {xs ys : List Outcome} → x ≡ y → xs ≡ ys → x ∷ xs ≡ y ∷ ys
    two p q = cc

pub marks_apart : (os ps : List Outcome) → marks_of os ≡ marks_of ps → os ≡ ps
marks_apart os ps p = sym (all_unmarked os) ∙ ap (λ l. map unmarked l) p ∙ all_unmarked ps

abbrev pub Marked : Type 0
Marked = Vec ℕ Global × Ending

abbrev pub IsMarked : Marked → Type 0
IsMarked p = p.0.items ≡ marks_of p.1.outcomes.items

abbrev pub same_marks : Vec ℕ Global → Vec ℕ Global → Bool
same_marks a b = bytes_eq a.items b.items

-- how many orders have ended with these marks
abbrev pub count_at : List ℕ → List Marked → ℕ
count_at marks es = option_map_or (λ (e : Ending). e.count) (lookup (λ (k : Vec ℕ Global). bytes_eq marks k.items) es) 0

head_marked : (e : Marked) (es : List Marked) → All IsMarked (e ∷ es) → IsMarked e
head_marked e es a = a 0 e (omega arith)

tail_marked : (e : Marked) (es : List Marked) → All IsMarked (e ∷ es) → All IsMarked es
tail_marked e es a = λ k d l. a (suc k) d (omega arith)

cons_marked : (e : Marked) (es : List Marked) → IsMarked e → All IsMarked es → All IsMarked (e ∷ es)
cons_marked e es m a = by
  where
    by : (k : ℕ) (d : Marked) → k < length (e ∷ es) → IsMarked (slice_index_or (e ∷ es) k d)
    by zero d l = m
    by (suc k) d l = a k d (omega arith)

none_marked : All IsMarked []
none_marked k d l = absurd (no k l)
  where
    no : (k : ℕ) → k < 0 → ⊥
    no k l = omega arith

abbrev pub endings_of : List Marked → List Ending
endings_of es = map (λ (p : Marked). p.1) es

module _ (marks : Vec ℕ Global) (new : Ending) (m : marks.items ≡ marks_of new.outcomes.items) where
  abbrev Inserted : List Marked → List Marked
  Inserted es = insert_entry same_marks es marks new

  -- an entry with these marks has these outcomes
  same_outcomes : (e : Marked) → IsMarked e → same_marks marks e.0 ≡ true → new.outcomes.items ≡ e.1.outcomes.items
  same_outcomes e f p = marks_apart new.outcomes.items e.1.outcomes.items (sym m ∙ (bytes_eq-Decides marks.items e.0.items).0 p ∙ f)

  pub inserted_marked : (es : List Marked) → All IsMarked es → All IsMarked (Inserted es)
  inserted_marked [] a = cons_marked (marks, new) [] m none_marked
  inserted_marked (e ∷ es) a = by (tested (same_marks marks e.0)) (inserted_marked es (tail_marked e es a))
    where
      by : Tested (same_marks marks e.0) → All IsMarked (Inserted es) → All IsMarked (cond (same_marks marks e.0) ((e.0, new) ∷ es) (e ∷ Inserted es))
      by (inl p) i = rw p (cons_marked (e.0, new) es (sym ((bytes_eq-Decides marks.items e.0.items).0 p) ∙ m) (tail_marked e es a))
      by (inr p) i = rw p (cons_marked e (Inserted es) (head_marked e es a) i)

  ended_cons : (test : List Outcome → Bool) (e : Ending) (es : List Ending) → ended_so test (e ∷ es) ≡ cond (test e.outcomes.items) e.count 0 + ended_so test es
  ended_cons test e es = sum_by-cons (λ (e : Ending). cond (test e.outcomes.items) e.count 0) e es

  pub inserted_counts : (test : List Outcome → Bool) (es : List Marked) → All IsMarked es → new.count ≡ count_at marks.items es + 1 →
      ended_so test (endings_of (Inserted es)) ≡ ended_so test (endings_of es) + cond (test new.outcomes.items) 1 0
  inserted_counts test [] a n = ended_cons test new [] ∙ by (test new.outcomes.items)
    where
      by : (b : Bool) → cond b new.count 0 + 0 ≡ 0 + cond b 1 0
      by true = omega (arith, n)
      by false = refl
  inserted_counts test (e ∷ es) a n = by (tested (same_marks marks e.0)) (λ q. inserted_counts test es (tail_marked e es a) q) n
    where
      rest : ℕ
      rest = ended_so test (endings_of es)

      one : (b : Bool) (k : ℕ) → new.count ≡ k + 1 → cond b new.count 0 + rest ≡ (cond b k 0 + rest) + cond b 1 0
      one true k q = omega arith
      one false k q = omega arith

      more : (c x y d : ℕ) → x ≡ y + d → c + x ≡ (c + y) + d
      more c x y d q = omega arith

      by : Tested (same_marks marks e.0) → (new.count ≡ count_at marks.items es + 1 → ended_so test (endings_of (Inserted es)) ≡ rest + cond (test new.outcomes.items) 1 0) →
          new.count ≡ option_map_or (λ (e : Ending). e.count) (cond (same_marks marks e.0) (Some e.1) (lookup (λ (k : Vec ℕ Global). bytes_eq marks.items k.items) es)) 0 + 1 →
          ended_so test (endings_of (cond (same_marks marks e.0) ((e.0, new) ∷ es) (e ∷ Inserted es))) ≡ ended_so test (endings_of (e ∷ es)) + cond (test new.outcomes.items) 1 0
      by (inl p) i q =
          let same : new.outcomes.items ≡ e.1.outcomes.items = same_outcomes e (head_marked e es a) p in
          let k : new.count ≡ e.1.count + 1 = subst (λ b. new.count ≡ option_map_or (λ (e : Ending). e.count) (cond b (Some e.1) (lookup (λ (k : Vec ℕ Global). bytes_eq marks.items k.items) es)) 0 + 1) p q in
          rw p (ended_cons test new (endings_of es) ∙ one (test new.outcomes.items) e.1.count k
          ∙ ap (λ l. (cond (test l) e.1.count 0 + rest) + cond (test new.outcomes.items) 1 0) same
          ∙ ap (λ x. x + cond (test new.outcomes.items) 1 0) (sym (ended_cons test e.1 (endings_of es))))
      by (inr p) i q =
          let k : new.count ≡ count_at marks.items es + 1 = subst (λ b. new.count ≡ option_map_or (λ (e : Ending). e.count) (cond b (Some e.1) (lookup (λ (k : Vec ℕ Global). bytes_eq marks.items k.items) es)) 0 + 1) p q in
          rw p (ended_cons test e.1 (endings_of (Inserted es))
          ∙ more (cond (test e.1.outcomes.items) e.1.count 0) (ended_so test (endings_of (Inserted es))) rest (cond (test new.outcomes.items) 1 0) (i k)
          ∙ ap (λ x. x + cond (test new.outcomes.items) 1 0) (sym (ended_cons test e.1 (endings_of es))))

  -- what is there now was there, or is the new one
  inserted_has : (es : List Marked) (d : Ending) → Contains (endings_of (Inserted es)) d → (new ≡ d) ⊎ Contains (endings_of es) d
  inserted_has [] d c = by (Contains-cases new [] d c)
    where
      by : (new ≡ d) ⊎ Contains [] d → (new ≡ d) ⊎ Contains [] d
      by x = x
  inserted_has (e ∷ es) d c = by (tested (same_marks marks e.0)) (λ x. inserted_has es d x) c
    where
      first : (new ≡ d) ⊎ Contains (endings_of es) d → (new ≡ d) ⊎ Contains (endings_of (e ∷ es)) d
      first (inl p) = inl p
      first (inr x) = inr (Contains-behind e.1 (endings_of es) d x)

      behind : (Contains (endings_of (Inserted es)) d → (new ≡ d) ⊎ Contains (endings_of es) d) → (e.1 ≡ d) ⊎ Contains (endings_of (Inserted es)) d →
          (new ≡ d) ⊎ Contains (endings_of (e ∷ es)) d
      behind i (inl p) = inr (subst (λ x. Contains (endings_of (e ∷ es)) x) p (Contains-first e.1 (endings_of es)))
      behind i (inr x) = first (i x)

      by : Tested (same_marks marks e.0) → (Contains (endings_of (Inserted es)) d → (new ≡ d) ⊎ Contains (endings_of es) d) →
          Contains (endings_of (cond (same_marks marks e.0) ((e.0, new) ∷ es) (e ∷ Inserted es))) d → (new ≡ d) ⊎ Contains (endings_of (e ∷ es)) d
      by (inl p) i x = first (Contains-cases new (endings_of es) d (subst (λ b. Contains (endings_of (cond b ((e.0, new) ∷ es) (e ∷ Inserted es))) d) p x))
      by (inr p) i x = behind i (Contains-cases e.1 (endings_of (Inserted es)) d (subst (λ b. Contains (endings_of (cond b ((e.0, new) ∷ es) (e ∷ Inserted es))) d) p x))

  pub inserted_apart : (es : List Marked) → All IsMarked es → AreApart (endings_of es) → AreApart (endings_of (Inserted es))
  inserted_apart [] a x = (λ d c. absurd (Contains-none d c), tt)
  inserted_apart (e ∷ es) a x = by (tested (same_marks marks e.0)) (inserted_apart es (tail_marked e es a) x.1)
    where
      others : same_marks marks e.0 ≡ false → (d : Ending) → (new ≡ d) ⊎ Contains (endings_of es) d → d.outcomes.items ≡ e.1.outcomes.items → ⊥
      others p d (inr c) q = x.0 d c q
      others p d (inl c) q =
          false≢true (sym p ∙ (bytes_eq-Decides marks.items e.0.items).1 (m ∙ ap (λ l. marks_of l) (ap (λ (n : Ending). n.outcomes.items) c ∙ q) ∙ sym (head_marked e es a)))

      by : Tested (same_marks marks e.0) → AreApart (endings_of (Inserted es)) → AreApart (endings_of (cond (same_marks marks e.0) ((e.0, new) ∷ es) (e ∷ Inserted es)))
      by (inl p) i = rw p ((λ d c q. x.0 d c (q ∙ same_outcomes e (head_marked e es a) p), x.1))
      by (inr p) i = rw p ((λ d c q. others p d (inserted_has es d c) q, i))
