-- Places in the order of their rows and instants.
use Rattle.std.proofs.Common.{◌≡◌, ◌≤◌, ◌<◌, ◌+◌, ◌-◌, inl, inr, ℕ, zero, suc, false, cond, List, length, get_or, nat_cmp, sym, ◌∙◌, ap, subst, arith}
use Rattle.std.specs.Prelude.{◌==◌, nat_lt}
use Rattle.std.proofs.Common.{Less, Equal, Greater}
use Rattle.std.specs.Ordering.{is_lt, ordering_then}
use Rattle.std.proofs.lemmas.Bool.{true≢false, cases_lt, lt-ltb, le-ltb, eq-eqb, cond-true, cond-false}
use Rattle.hib_traces.specs.Making.{AreSorted}
use Rattle.hib_traces.specs.Places.{IsNoLater}
use Rattle.hib_traces.specs.declared.places.Place.{Place}

less_is : (m n : ℕ) → m < n → nat_cmp m n ≡ Less
less_is m n l = cond-true (nat_lt m n) Less (cond (m == n) Equal Greater) (lt-ltb m n l)

equal_is : (m n : ℕ) → m ≡ n → nat_cmp m n ≡ Equal
equal_is m n e = cond-false (nat_lt m n) Less (cond (m == n) Equal Greater) (le-ltb m n (omega (arith, e))) ∙ cond-true (m == n) Equal Greater (eq-eqb m n e)

-- the later one of two places isn't the lesser
row_no_later : (p q : Place) → is_lt (ordering_then (nat_cmp q.row p.row) (nat_cmp q.ready p.ready)) ≡ false → p.row ≤ q.row
row_no_later p q h = elim (cases_lt q.row p.row) [
  | inl l ↦ absurd (true≢false (sym (ap (λ o. is_lt (ordering_then o (nat_cmp q.ready p.ready))) (less_is q.row p.row l)) ∙ h))
  | inr l ↦ l
]

ready_no_later : (p q : Place) → is_lt (ordering_then (nat_cmp q.row p.row) (nat_cmp q.ready p.ready)) ≡ false → p.row ≡ q.row → p.ready ≤ q.ready
ready_no_later p q h s = elim (cases_lt q.ready p.ready) [
  | inl l ↦ absurd (true≢false (sym (
      ap (λ o. is_lt (ordering_then o (nat_cmp q.ready p.ready))) (equal_is q.row p.row (sym s)) ∙ ap is_lt (less_is q.ready p.ready l)) ∙ h))
  | inr l ↦ l
]

no_later_on : (p q r : Place) → IsNoLater p q → IsNoLater q r → IsNoLater p r
no_later_on p q r a b =
    let l : p.row ≤ q.row = a.row in
    let m : q.row ≤ r.row = b.row in
    record {
      row = omega (arith, l, m);
      ready = λ s. let x : p.ready ≤ q.ready = a.ready (omega (arith, l, m, s)) in let y : q.ready ≤ r.ready = b.ready (omega (arith, l, m, s)) in omega (arith, x, y);
    }

self : (p : Place) → IsNoLater p p
self p = record { row = omega arith; ready = λ s. omega arith }

module _ (ps : List Place)
    (f : (k : ℕ) (d : Place) → k + 1 < length ps → is_lt (ordering_then (nat_cmp (get_or ps (k + 1) d).row (get_or ps k d).row)
    (nat_cmp (get_or ps (k + 1) d).ready (get_or ps k d).ready)) ≡ false) where
  next_one : (k : ℕ) (d : Place) → k + 1 < length ps → IsNoLater (get_or ps k d) (get_or ps (k + 1) d)
  next_one k d l = record {
    row = row_no_later (get_or ps k d) (get_or ps (k + 1) d) (f k d l);
    ready = ready_no_later (get_or ps k d) (get_or ps (k + 1) d) (f k d l);
  }

  far : (i n : ℕ) (d : Place) → i + n < length ps → IsNoLater (get_or ps i d) (get_or ps (i + n) d)
  far i zero d l = subst (λ (k : ℕ). IsNoLater (get_or ps i d) (get_or ps k d)) (omega arith) (self (get_or ps i d))
  far i (suc n) d l =
      no_later_on (get_or ps i d) (get_or ps (i + n) d) (get_or ps (i + suc n) d) (far i n d (omega (arith, l)))
      (subst (λ (k : ℕ). IsNoLater (get_or ps (i + n) d) (get_or ps k d)) (omega arith) (next_one (i + n) d (omega (arith, l))))

  pub sorted_from : AreSorted ps
  sorted_from = record {
    each = λ i j d l m. subst (λ (k : ℕ). IsNoLater (get_or ps i d) (get_or ps k d)) (omega (arith, l)) (far i (j - i) d (omega (arith, l, m)));
  }
