-- The places that matter, one after the other.
use Rattle.std.proofs.Common.{◌≡◌, ◌≤◌, ◌<◌, ◌+◌, ◌-◌, inl, inr, ℕ, Bool, true, false, None, List, [], ◌∷◌, ◌++◌, length, get_or, take, refl, sym, ◌∙◌, ap, subst, arith}
use Rattle.std.specs.Prelude.{◌&&◌, ◌||◌, ◌==◌, not, nat_eq}
use Rattle.std.proofs.lemmas.Bool.{both_ways, and_parts, and_cases, eqb-true, eqb-false, eq-eqb, ne_eqb, not-true, cases_lt}
use Rattle.std.proofs.lemmas.List.{get_or_append_left, get_or_default, length-append, take_more}
use Rattle.std.proofs.Math.Seq.{get_or-append_seam}
use Rattle.std.proofs.lemmas.List.Folds.{list_any_at}
use Rattle.hib_trace_law.specs.Certain.{ended_before}
use Rattle.hib_traces.specs.Making.{AreAlike, AreSorted, covers_next}
use Rattle.hib_traces.specs.Places.{AreInOrder, IsNoLater, IsUpTo, has_row, is_within, stands_at}
use Rattle.hib_traces.specs.declared.places.Place.{Place}
use Rattle.hib_traces.proofs.Stood.{stands_one, stand, stood, Stood, within_ends, within_either, within_on, within_self}
use Rattle.hib_traces.proofs.Told.{any_more}

-- what the first i places come to
pub record IsKept (ps : List Place) (i : ℕ) (ks : List Place) : Type 0 where
  pub alike : AreAlike ks (take i ps)
  pub order : AreInOrder ks
  pub earlier : (j k : ℕ) (d : Place) → j < length ks → i ≤ k → k < length ps → IsNoLater (get_or ks j d) (get_or ps k d)

abbrev zero_place : Place
zero_place = record { row = 0; ready = 0; gone = None }

alike_more : (ks ps : List Place) (p : Place) → AreAlike ks ps → AreAlike (ks ++ p ∷ []) (ps ++ p ∷ [])
alike_more ks ps p a = record {
  stands = λ r e t. any_more (stands_one r e t) ks p ∙ ap (λ b. b || stands_one r e t p) (a.stands r e t) ∙ sym (any_more (stands_one r e t) ps p);
  rows = λ r. any_more (λ q. nat_eq q.row r) ks p ∙ ap (λ b. b || nat_eq p.row r) (a.rows r) ∙ sym (any_more (λ q. nat_eq q.row r) ps p);
}

-- a test that is implied adds nothing
or_implied : (a b : Bool) → (b ≡ true → a ≡ true) → a ≡ (a || b)
or_implied true b f = refl
or_implied false true f = f refl
or_implied false false f = refl

-- a place that another one covers adds nothing
alike_covered : (ks ps : List Place) (p : Place) (n : ℕ) (d : Place) → AreAlike ks ps → n < length ks → (get_or ks n d).row ≡ p.row →
    (get_or ks n d).ready ≤ p.ready → is_within p.gone (get_or ks n d).gone ≡ true → AreAlike ks (ps ++ p ∷ [])
alike_covered ks ps p n d a l s m w = record {
  stands = λ r e t. or_implied (stands_at r e t ks) (stands_one r e t p) (λ h.
      let g : Stood r e t p = stood r e t p h in
      let q : p.ready ≤ e = g.ready in
      list_any_at (stands_one r e t) ks n d l
      (stand r e t (get_or ks n d) (s ∙ g.row) (omega (arith, m, q))
      (never (ended_before (get_or ks n d).gone t) (λ o. both_ways (ended_before p.gone t) g.lasts (within_ends p.gone (get_or ks n d).gone t w o)))))
      ∙ ap (λ b. b || stands_one r e t p) (a.stands r e t) ∙ sym (any_more (stands_one r e t) ps p);
  rows = λ r. or_implied (has_row r ks) (nat_eq p.row r)
      (λ h. list_any_at (λ q. nat_eq q.row r) ks n d l (eq-eqb (get_or ks n d).row r (s ∙ eqb-true p.row r h)))
      ∙ ap (λ b. b || nat_eq p.row r) (a.rows r) ∙ sym (any_more (λ q. nat_eq q.row r) ps p);
}
  where
    never : (b : Bool) → (b ≡ true → ⊥) → b ≡ false
    never true f = absurd (f refl)
    never false f = refl

-- a fact of each place of a longer list, from the list and its last place
at_each : (ks : List Place) (p : Place) (P : Place → Type 0) (i : ℕ) (d : Place) → i < length ks + 1 → (i < length ks → P (get_or ks i d)) → P p →
    P (get_or (ks ++ p ∷ []) i d)
at_each ks p P i d l f h = elim (cases_lt i (length ks)) [
  | inl q ↦ subst P (sym (get_or_append_left ks (p ∷ []) d i q)) (f q)
  | inr q ↦ let e : length ks ≡ i = omega (arith, l, q) in
      subst P (ap (λ k. get_or (ks ++ p ∷ []) k d) e) (subst P (sym (get_or-append_seam ks p [] d)) h)
]

no_later : (p : Place) → IsNoLater p p
no_later p = record { row = omega arith; ready = λ e. omega arith }

order_more : (ks : List Place) (p : Place) → AreInOrder ks → ((j : ℕ) (d : Place) → j < length ks → IsUpTo (get_or ks j d) p) → AreInOrder (ks ++ p ∷ [])
order_more ks p o f = record {
  each = λ i j d l n. let e : j < length ks + 1 = subst (λ k. j < k) (length-append ks (p ∷ [])) n in
      at_each ks p (IsUpTo (get_or (ks ++ p ∷ []) i d)) j d e
      (λ q. subst (λ (x : Place). IsUpTo x (get_or ks j d)) (sym (get_or_append_left ks (p ∷ []) d i (omega (arith, l, q)))) (o.each i j d l q))
      (at_each ks p (λ x. IsUpTo x p) i d (omega (arith, l, e)) (f i d) (record { later = no_later p; gone = λ s. within_self p.gone }));
}

module _ (ps ks : List Place) (i : ℕ) (d : Place) (l : i < length ps) (s : IsKept ps i ks) where
  abbrev next : Place
  next = get_or ps i d

  earlier_next : (j : ℕ) (x : Place) → j < length ks → IsNoLater (get_or ks j x) next
  earlier_next j x m = subst (λ (y : Place). IsNoLater (get_or ks j x) y) (get_or_default ps i x d l) (s.earlier j i x m (omega arith) l)

  pub dropped : covers_next ks next ≡ true → IsKept ps (i + 1) ks
  dropped h =
      let a : ((not (length ks == 0) && nat_eq (get_or ks (length ks - 1) zero_place).row next.row) ≡ true)
      × (is_within next.gone (get_or ks (length ks - 1) zero_place).gone ≡ true) =
      and_parts (not (length ks == 0) && nat_eq (get_or ks (length ks - 1) zero_place).row next.row)
      (is_within next.gone (get_or ks (length ks - 1) zero_place).gone) h in
      let b : (not (length ks == 0) ≡ true) × (nat_eq (get_or ks (length ks - 1) zero_place).row next.row ≡ true) =
      and_parts (not (length ks == 0)) (nat_eq (get_or ks (length ks - 1) zero_place).row next.row) a.0 in
      let z : length ks ≡ 0 → ⊥ = eqb-false (length ks) 0 (not-true (length ks == 0) b.0) in
      let n : length ks - 1 < length ks = omega (arith, z) in
      let r : (get_or ks (length ks - 1) zero_place).row ≡ next.row = eqb-true (get_or ks (length ks - 1) zero_place).row next.row b.1 in
      record {
        alike = subst (AreAlike ks) (sym (take_more ps i d l))
            (alike_covered ks (take i ps) next (length ks - 1) zero_place s.alike n r ((earlier_next (length ks - 1) zero_place n).ready r) a.1);
        order = s.order;
        earlier = λ j k x m q w. s.earlier j k x m (omega (arith, q)) w;
      }

  pub kept : AreSorted ps → covers_next ks next ≡ false → IsKept ps (i + 1) (ks ++ next ∷ [])
  kept o h = record {
    alike = subst (AreAlike (ks ++ next ∷ [])) (sym (take_more ps i d l)) (alike_more ks (take i ps) next s.alike);
    order = order_more ks next s.order (λ j x m. record { later = earlier_next j x m; gone = grows j x m });
    earlier = λ j k x m q w. at_each ks next (λ y. IsNoLater y (get_or ps k x)) j x (subst (λ n. j < n) (length-append ks (next ∷ [])) m)
        (λ n. s.earlier j k x n (omega (arith, q)) w)
        (subst (λ (y : Place). IsNoLater y (get_or ps k x)) (get_or_default ps i x d l) (o.each i k x (omega (arith, q)) w));
  }
    where
      uncovered : (get_or ks (length ks - 1) zero_place).row ≡ next.row → (j : ℕ) → j < length ks →
          is_within next.gone (get_or ks (length ks - 1) zero_place).gone ≡ false
      uncovered e j m = elim (and_cases (not (length ks == 0) && nat_eq (get_or ks (length ks - 1) zero_place).row next.row)
          (is_within next.gone (get_or ks (length ks - 1) zero_place).gone) h) [
            | inl q ↦ elim (and_cases (not (length ks == 0)) (nat_eq (get_or ks (length ks - 1) zero_place).row next.row) q) [
              | inl v ↦ absurd (both_ways (not (length ks == 0)) v (ap not (ne_eqb (length ks) 0 (λ y. omega (arith, y, m)))))
              | inr v ↦ absurd (both_ways (nat_eq (get_or ks (length ks - 1) zero_place).row next.row) v (eq-eqb (get_or ks (length ks - 1) zero_place).row next.row e))
            ]
            | inr q ↦ q
          ]

      grows : (j : ℕ) (x : Place) → j < length ks → (get_or ks j x).row ≡ next.row → is_within (get_or ks j x).gone next.gone ≡ true
      grows j x m r =
          let n : length ks - 1 < length ks = omega (arith, m) in
          let last : Place = get_or ks (length ks - 1) zero_place in
          let z : get_or ks (length ks - 1) x ≡ last = get_or_default ks (length ks - 1) x zero_place n in
          let u : IsUpTo (get_or ks j x) last = subst (IsUpTo (get_or ks j x)) z (s.order.each j (length ks - 1) x (omega (arith, m)) n) in
          let a : (get_or ks j x).row ≤ last.row = u.later.row in
          let b : last.row ≤ next.row = (earlier_next (length ks - 1) zero_place n).row in
          let e : last.row ≡ next.row = omega (arith, a, b, r) in
          within_on (get_or ks j x).gone last.gone next.gone (u.gone (r ∙ sym e)) (within_either next.gone last.gone (uncovered e j m))
