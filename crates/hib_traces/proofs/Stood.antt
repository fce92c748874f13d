-- What places in order answer.
use Rattle.std.proofs.Common.{◌≡◌, ◌≤◌, ◌<◌, ◌+◌, inl, inr, ℕ, Bool, true, false, Option, None, Some, List, length, get_or, refl, sym, ◌∙◌, ap, subst, arith}
use Rattle.std.specs.Prelude.{◌&&◌, not, nat_eq, nat_lt, nat_le}
use Rattle.std.proofs.lemmas.Bool.{true≢false, false≢true, both_ways, and_parts, and_from, and_left, not-true, not_from_false, false_from_ne_true, ltb-true, lt-ltb, le-ltb, leb-true, le-leb, eq-eqb, eqb-true, ne_eqb, or_cases, or_left, or_right, or_parts, cases_lt, cond-true, cond-false}
use Rattle.std.proofs.lemmas.List.{get_or_default}
use Rattle.std.proofs.lemmas.List.Folds.{list_any_at, list_any_none}
use Rattle.hib_trace_law.specs.Certain.{ended_before}
use Rattle.hib_traces.specs.Making.{is_behind, is_ready}
use Rattle.hib_traces.specs.Places.{AreInOrder, IsUpTo, has_row, is_within, stands_at}
use Rattle.hib_traces.specs.declared.places.Place.{Place}

pub within_ends : (g h : Option ℕ) (t : ℕ) → is_within g h ≡ true → ended_before h t ≡ true → ended_before g t ≡ true
within_ends g None t w e = absurd (false≢true e)
within_ends None (Some n) t w e = absurd (false≢true w)
within_ends (Some m) (Some n) t w e =
    let a : m ≤ n = leb-true m n w in let b : n < t = ltb-true n t e in lt-ltb m t (omega (arith, a, b))

pub within_on : (g h i : Option ℕ) → is_within g h ≡ true → is_within h i ≡ true → is_within g i ≡ true
within_on g h None v w = refl
within_on g None (Some n) v w = absurd (false≢true w)
within_on None (Some m) (Some n) v w = absurd (false≢true v)
within_on (Some l) (Some m) (Some n) v w =
    let a : l ≤ m = leb-true l m v in let b : m ≤ n = leb-true m n w in le-leb l n (omega (arith, a, b))

pub within_either : (g h : Option ℕ) → is_within g h ≡ false → is_within h g ≡ true
within_either g None v = absurd (true≢false v)
within_either None (Some n) v = refl
within_either (Some m) (Some n) v = le-leb n m (elim (cases_lt n m) [ inl q ↦ omega (arith, q) | inr q ↦ absurd (true≢false (sym (le-leb m n q) ∙ v)) ])

pub within_self : (g : Option ℕ) → is_within g g ≡ true
within_self None = refl
within_self (Some n) = le-leb n n (omega arith)

-- the test of one place
abbrev pub stands_one : ℕ → ℕ → ℕ → Place → Bool
stands_one r e t p = nat_eq p.row r && nat_le p.ready e && not (ended_before p.gone t)

pub record Stood (r e t : ℕ) (p : Place) : Type 0 where
  pub row : p.row ≡ r
  pub ready : p.ready ≤ e
  pub lasts : ended_before p.gone t ≡ false

pub stood : (r e t : ℕ) (p : Place) → stands_one r e t p ≡ true → Stood r e t p
stood r e t p h =
    let a : ((nat_eq p.row r && nat_le p.ready e) ≡ true) × (not (ended_before p.gone t) ≡ true) =
    and_parts (nat_eq p.row r && nat_le p.ready e) (not (ended_before p.gone t)) h in
    let b : (nat_eq p.row r ≡ true) × (nat_le p.ready e ≡ true) = and_parts (nat_eq p.row r) (nat_le p.ready e) a.0 in
    record { row = eqb-true p.row r b.0; ready = leb-true p.ready e b.1; lasts = not-true (ended_before p.gone t) a.1 }

pub stand : (r e t : ℕ) (p : Place) → p.row ≡ r → p.ready ≤ e → ended_before p.gone t ≡ false → stands_one r e t p ≡ true
stand r e t p a b c =
    and_from (nat_eq p.row r && nat_le p.ready e) (not (ended_before p.gone t))
    (and_from (nat_eq p.row r) (nat_le p.ready e) (eq-eqb p.row r a) (le-leb p.ready e b)) (not_from_false (ended_before p.gone t) c)

-- ---- what lies before a row that is answered at an instant, and behind it

pub record IsBefore (r e : ℕ) (p : Place) : Type 0 where
  pub row : p.row ≤ r
  pub ready : p.row ≡ r → p.ready ≤ e

pub ready_parts : (r e : ℕ) (p : Place) → is_ready r e p ≡ true → IsBefore r e p
ready_parts r e p h = elim (or_cases (nat_lt p.row r) (nat_eq p.row r && nat_le p.ready e) h) [
  | inl q ↦ let l : p.row < r = ltb-true p.row r q in record { row = omega (arith, l); ready = λ s. absurd (omega (arith, l, s)) }
  | inr q ↦ let b : (nat_eq p.row r ≡ true) × (nat_le p.ready e ≡ true) = and_parts (nat_eq p.row r) (nat_le p.ready e) q in
      let s : p.row ≡ r = eqb-true p.row r b.0 in
      record { row = omega (arith, s); ready = λ u. leb-true p.ready e b.1 }
]

pub ready_by : (r e : ℕ) (p : Place) → IsBefore r e p → is_ready r e p ≡ true
ready_by r e p b = elim (cases_lt p.row r) [
  | inl q ↦ or_left (nat_lt p.row r) (nat_eq p.row r && nat_le p.ready e) (lt-ltb p.row r q)
  | inr q ↦ let a : p.row ≤ r = b.row in
      let s : p.row ≡ r = omega (arith, q, a) in
      or_right (nat_lt p.row r) (nat_eq p.row r && nat_le p.ready e)
      (and_from (nat_eq p.row r) (nat_le p.ready e) (eq-eqb p.row r s) (le-leb p.ready e (b.ready s)))
]

pub ready_before : (r e : ℕ) (p q : Place) → IsUpTo p q → is_ready r e q ≡ true → is_ready r e p ≡ true
ready_before r e p q u h =
    let b : IsBefore r e q = ready_parts r e q h in
    let l : p.row ≤ q.row = u.later.row in
    let m : q.row ≤ r = b.row in
    ready_by r e p (record {
      row = omega (arith, l, m);
      ready = λ s. let z : p.row ≡ q.row = omega (arith, l, m, s) in
          let a : p.ready ≤ q.ready = u.later.ready z in
          let c : q.ready ≤ e = b.ready (omega (arith, z, s)) in
          omega (arith, a, c);
    })

pub late_behind : (r e : ℕ) (p q : Place) → IsUpTo p q → is_ready r e p ≡ false → is_ready r e q ≡ false
late_behind r e p q u h = false_from_ne_true (is_ready r e q) (λ t. both_ways (is_ready r e p) h (ready_before r e p q u t))

pub late_misses : (r e t : ℕ) (p : Place) → is_ready r e p ≡ false → stands_one r e t p ≡ false
late_misses r e t p h =
    and_left (nat_eq p.row r && nat_le p.ready e) (not (ended_before p.gone t)) (or_parts (nat_lt p.row r) (nat_eq p.row r && nat_le p.ready e) h).1

-- places of which the first n are ready and the others aren't
pub record AreCut (ps : List Place) (r e n : ℕ) : Type 0 where
  pub order : AreInOrder ps
  pub bound : n ≤ length ps
  pub ready : (k : ℕ) (d : Place) → k < n → is_ready r e (get_or ps k d) ≡ true
  pub late : (k : ℕ) (d : Place) → n ≤ k → k < length ps → is_ready r e (get_or ps k d) ≡ false

-- none of them is ready
pub none_stands : (ps : List Place) (r e n t : ℕ) → AreCut ps r e n → ((k : ℕ) (d : Place) → k < n → (get_or ps k d).row ≡ r → ⊥) → stands_at r e t ps ≡ false
none_stands ps r e n t c f = list_any_none (stands_one r e t) ps
    (λ k d l. elim (cases_lt k n) [
      | inl q ↦ false_from_ne_true (stands_one r e t (get_or ps k d)) (λ h. f k d q (stood r e t (get_or ps k d) h).row)
      | inr q ↦ late_misses r e t (get_or ps k d) (c.late k d q l)
    ])

pub first_late : (ps : List Place) (r e t : ℕ) → AreCut ps r e 0 → stands_at r e t ps ≡ false
first_late ps r e t c = none_stands ps r e 0 t c (λ k d l. absurd (omega (arith, l)))

-- the last that is ready is of another row
pub other_last : (ps : List Place) (r e n t : ℕ) (d : Place) → AreCut ps r e (n + 1) → ((get_or ps n d).row ≡ r → ⊥) → stands_at r e t ps ≡ false
other_last ps r e n t d c f = none_stands ps r e (n + 1) t c
    (λ k x l s.
    let m : n < length ps = let b : n + 1 ≤ length ps = c.bound in omega (arith, b) in
    let b : IsBefore r e (get_or ps n d) = ready_parts r e (get_or ps n d) (c.ready n d (omega arith)) in
    let u : (get_or ps k d).row ≤ (get_or ps n d).row = (c.order.each k n d (omega (arith, l)) m).later.row in
    let z : (get_or ps k d).row ≡ r = ap (λ (y : Place). y.row) (get_or_default ps k d x (omega (arith, l, m))) ∙ s in
    let v : (get_or ps n d).row ≤ r = b.row in
    f (omega (arith, u, z, v)))

-- the last that is ready is of the row
pub last_stands : (ps : List Place) (r e n t : ℕ) (d : Place) → AreCut ps r e (n + 1) → (get_or ps n d).row ≡ r →
    stands_at r e t ps ≡ not (ended_before (get_or ps n d).gone t)
last_stands ps r e n t d c s = by (ended_before (get_or ps n d).gone t) refl
  where
    m : n < length ps
    m = let b : n + 1 ≤ length ps = c.bound in omega (arith, b)

    misses : ended_before (get_or ps n d).gone t ≡ true → (k : ℕ) (x : Place) → k < length ps → stands_one r e t (get_or ps k x) ≡ false
    misses h k x l = elim (cases_lt k (n + 1)) [
      | inl q ↦ false_from_ne_true (stands_one r e t (get_or ps k x)) (λ o.
          let g : Stood r e t (get_or ps k x) = stood r e t (get_or ps k x) o in
          let z : get_or ps k d ≡ get_or ps k x = get_or_default ps k d x l in
          let u : IsUpTo (get_or ps k d) (get_or ps n d) = c.order.each k n d (omega (arith, q)) m in
          let w : is_within (get_or ps k d).gone (get_or ps n d).gone ≡ true = u.gone (ap (λ (y : Place). y.row) z ∙ g.row ∙ sym s) in
          both_ways (ended_before (get_or ps k x).gone t) g.lasts
          (subst (λ (y : Place). ended_before y.gone t ≡ true) z (within_ends (get_or ps k d).gone (get_or ps n d).gone t w h)))
      | inr q ↦ late_misses r e t (get_or ps k x) (c.late k x q l)
    ]

    by : (b : Bool) → ended_before (get_or ps n d).gone t ≡ b → stands_at r e t ps ≡ not b
    by true h = list_any_none (stands_one r e t) ps (misses h)
    by false h = list_any_at (stands_one r e t) ps n d m
        (stand r e t (get_or ps n d) s ((ready_parts r e (get_or ps n d) (c.ready n d (omega arith))).ready s) h)

-- ---- what lies before the places of a row that weren't gone before an instant

pub behind_row : (r t : ℕ) (p : Place) → is_behind r t p ≡ true → p.row ≤ r
behind_row r t p h = elim (cases_lt r p.row) [
  | inl q ↦ let n : nat_eq p.row r ≡ false = ne_eqb p.row r (λ s. omega (arith, q, s)) in
      let l : p.row < r = ltb-true p.row r (sym (cond-false (nat_eq p.row r) (ended_before p.gone t) (nat_lt p.row r) n) ∙ h) in absurd (omega (arith, q, l))
  | inr q ↦ q
]

pub behind_gone : (r t : ℕ) (p : Place) → p.row ≡ r → is_behind r t p ≡ ended_before p.gone t
behind_gone r t p s = cond-true (nat_eq p.row r) (ended_before p.gone t) (nat_lt p.row r) (eq-eqb p.row r s)

pub behind_other : (r t : ℕ) (p : Place) → p.row < r → is_behind r t p ≡ true
behind_other r t p l = cond-false (nat_eq p.row r) (ended_before p.gone t) (nat_lt p.row r) (ne_eqb p.row r (λ s. omega (arith, l, s))) ∙ lt-ltb p.row r l

pub behind_before : (r t : ℕ) (p q : Place) → IsUpTo p q → is_behind r t q ≡ true → is_behind r t p ≡ true
behind_before r t p q u h =
    let a : p.row ≤ q.row = u.later.row in
    let b : q.row ≤ r = behind_row r t q h in
    elim (cases_lt p.row r) [
      | inl l ↦ behind_other r t p l
      | inr l ↦ let s : p.row ≡ r = omega (arith, a, b, l) in
          let z : q.row ≡ r = omega (arith, a, b, l) in
          behind_gone r t p s ∙ within_ends p.gone q.gone t (u.gone (s ∙ sym z)) (sym (behind_gone r t q z) ∙ h)
    ]

pub within_behind : (r t : ℕ) (p q : Place) → IsUpTo p q → is_behind r t p ≡ false → is_behind r t q ≡ false
within_behind r t p q u h = false_from_ne_true (is_behind r t q) (λ e. both_ways (is_behind r t p) h (behind_before r t p q u e))

pub record AreSplit (ps : List Place) (r t n : ℕ) : Type 0 where
  pub order : AreInOrder ps
  pub behind : (k : ℕ) (d : Place) → k < n → is_behind r t (get_or ps k d) ≡ true
  pub within : (k : ℕ) (d : Place) → n ≤ k → k < length ps → is_behind r t (get_or ps k d) ≡ false

-- a place that stands isn't behind
stands_within : (r e t : ℕ) (p : Place) → Stood r e t p → is_behind r t p ≡ false
stands_within r e t p g = behind_gone r t p g.row ∙ g.lasts

pub first_ready : (ps : List Place) (r e t n : ℕ) (d : Place) → AreSplit ps r t n → n < length ps → (get_or ps n d).row ≡ r →
    stands_at r e t ps ≡ nat_le (get_or ps n d).ready e
first_ready ps r e t n d c m s = by (nat_le (get_or ps n d).ready e) refl
  where
    lasts : ended_before (get_or ps n d).gone t ≡ false
    lasts = sym (behind_gone r t (get_or ps n d) s) ∙ c.within n d (omega arith) m

    misses : nat_le (get_or ps n d).ready e ≡ false → (k : ℕ) (x : Place) → k < length ps → stands_one r e t (get_or ps k x) ≡ false
    misses h k x l = false_from_ne_true (stands_one r e t (get_or ps k x)) (λ o.
        let g : Stood r e t (get_or ps k x) = stood r e t (get_or ps k x) o in
        elim (cases_lt k n) [
          | inl q ↦ both_ways (is_behind r t (get_or ps k x)) (stands_within r e t (get_or ps k x) g) (c.behind k x q)
          | inr q ↦ let z : get_or ps k d ≡ get_or ps k x = get_or_default ps k d x l in
              let u : IsUpTo (get_or ps n d) (get_or ps k d) = c.order.each n k d q l in
              let v : (get_or ps n d).ready ≤ (get_or ps k d).ready = u.later.ready (s ∙ sym g.row ∙ sym (ap (λ (y : Place). y.row) z)) in
              let w : (get_or ps k x).ready ≤ e = g.ready in
              let y : (get_or ps k d).ready ≡ (get_or ps k x).ready = ap (λ (y : Place). y.ready) z in
              both_ways (nat_le (get_or ps n d).ready e) h (le-leb (get_or ps n d).ready e (omega (arith, v, w, y)))
        ])

    by : (b : Bool) → nat_le (get_or ps n d).ready e ≡ b → stands_at r e t ps ≡ b
    by true h = list_any_at (stands_one r e t) ps n d m (stand r e t (get_or ps n d) s (leb-true (get_or ps n d).ready e h) lasts)
    by false h = list_any_none (stands_one r e t) ps (misses h)

-- no place of the row lies behind those
row_missed : (ps : List Place) (r t n : ℕ) (d : Place) → AreSplit ps r t n → ((n < length ps) → (get_or ps n d).row ≡ r → ⊥) →
    (k : ℕ) (x : Place) → n ≤ k → k < length ps → (get_or ps k x).row ≡ r → ⊥
row_missed ps r t n d c f k x q l s =
    let m : n < length ps = omega (arith, q, l) in
    let z : get_or ps k d ≡ get_or ps k x = get_or_default ps k d x l in
    let u : (get_or ps n d).row ≤ (get_or ps k d).row = (c.order.each n k d q l).later.row in
    let v : (get_or ps k d).row ≡ r = ap (λ (y : Place). y.row) z ∙ s in
    let w : (get_or ps n d).row < r → ⊥ = λ a. both_ways (is_behind r t (get_or ps n d)) (c.within n d (omega arith) m) (behind_other r t (get_or ps n d) a) in
    f m (elim (cases_lt (get_or ps n d).row r) [ inl a ↦ absurd (w a) | inr a ↦ omega (arith, a, u, v) ])

pub no_ready : (ps : List Place) (r e t n : ℕ) (d : Place) → AreSplit ps r t n → ((n < length ps) → (get_or ps n d).row ≡ r → ⊥) → stands_at r e t ps ≡ false
no_ready ps r e t n d c f = list_any_none (stands_one r e t) ps
    (λ k x l. false_from_ne_true (stands_one r e t (get_or ps k x)) (λ o.
    let g : Stood r e t (get_or ps k x) = stood r e t (get_or ps k x) o in
    elim (cases_lt k n) [
      | inl q ↦ both_ways (is_behind r t (get_or ps k x)) (stands_within r e t (get_or ps k x) g) (c.behind k x q)
      | inr q ↦ row_missed ps r t n d c f k x q l g.row
    ]))

no_end : (o : Option ℕ) → ended_before o 0 ≡ false
no_end None = refl
no_end (Some n) = le-ltb n 0 (omega arith)

pub row_found : (ps : List Place) (r n : ℕ) (d : Place) → n < length ps → (get_or ps n d).row ≡ r → has_row r ps ≡ true
row_found ps r n d m s = list_any_at (λ p. nat_eq p.row r) ps n d m (eq-eqb (get_or ps n d).row r s)

pub row_absent : (ps : List Place) (r n : ℕ) (d : Place) → AreSplit ps r 0 n → ((n < length ps) → (get_or ps n d).row ≡ r → ⊥) → has_row r ps ≡ false
row_absent ps r n d c f = list_any_none (λ p. nat_eq p.row r) ps
    (λ k x l. ne_eqb (get_or ps k x).row r (λ s. elim (cases_lt k n) [
      | inl q ↦ both_ways (is_behind r 0 (get_or ps k x)) (behind_gone r 0 (get_or ps k x) s ∙ no_end (get_or ps k x).gone) (c.behind k x q)
      | inr q ↦ row_missed ps r 0 n d c f k x q l s
    ]))

-- whether the first place that isn't behind has the row
pub row_here : (ps : List Place) (r n : ℕ) (d : Place) → AreSplit ps r 0 n → n < length ps → nat_eq (get_or ps n d).row r ≡ has_row r ps
row_here ps r n d c m = by (nat_eq (get_or ps n d).row r) refl
  where
    by : (b : Bool) → nat_eq (get_or ps n d).row r ≡ b → b ≡ has_row r ps
    by true h = sym (row_found ps r n d m (eqb-true (get_or ps n d).row r h))
    by false h = sym (row_absent ps r n d c (λ l s. both_ways (nat_eq (get_or ps n d).row r) h (eq-eqb (get_or ps n d).row r s)))
