-- How the order of keys goes on if a key comes, goes, or gets another place.
use Rattle.std.proofs.Common.{◌≡◌, ◌<◌, ℕ, inl, inr, Bool, true, false, cond, nat_eq, List, [], ◌∷◌, ◌++◌, Option, Some, None, refl, sym, ap, ◌∙◌, subst, arith, true≢false, le-ltb, lt-ltb}
use Rattle.std.specs.Map.{lookup, remove_entry, keys_of}
use Rattle.std.specs.List.{IsDistinct, AllByRecursion, filter}
use Rattle.std.specs.Cmp.{nat_eq_equiv}
use Rattle.std.proofs.lemmas.Bool.{ltb-true, eqb-true}
use Rattle.std.proofs.lemmas.Map.{lookup-remove_entry}
use Rattle.hib_base.proofs.Tables.{Tested, tested}
use Rattle.hib_journal.specs.Room.{is_earlier}
use Rattle.hib_room_laws.specs.Order.{AreLater, IsInOrder, IsUpTo}

pub earlier_self : (p : Option ℕ) → is_earlier p p ≡ false
earlier_self None = refl
earlier_self (Some t) = le-ltb t t (omega arith)

pub earlier_back : (p q : Option ℕ) → is_earlier p q ≡ true → is_earlier q p ≡ false
earlier_back None q h = absurd (true≢false (sym h))
earlier_back (Some t) None h = refl
earlier_back (Some t) (Some u) h = let l : t < u = ltb-true t u h in le-ltb u t (omega arith)

-- a place that is there and at most this tick is before a later one
pub earlier_now : (p : Option ℕ) (last now : ℕ) → is_earlier p None ≡ true → IsUpTo last p → last < now → is_earlier p (Some now) ≡ true
earlier_now None last now h b l = absurd (true≢false (sym h))
earlier_now (Some t) last now h b l = lt-ltb t now (omega arith)

-- if the head is another key, the rest does not have it either
pub absent_head : {X : Type 0} (x : ℕ) (e : ℕ × X) (es : List (ℕ × X)) → lookup (nat_eq x) (e ∷ es) ≡ None → (nat_eq x e.0 ≡ false) × (lookup (nat_eq x) es ≡ None)
absent_head x e es h = by (tested (nat_eq x e.0))
  where
    by : Tested (nat_eq x e.0) → (nat_eq x e.0 ≡ false) × (lookup (nat_eq x) es ≡ None)
    by (inl p) = absurd (some_none (rw p at h))
      where
        some_none : Some e.1 ≡ None → ⊥
        some_none q = cc
    by (inr p) = (p, rw p at h)

module _ {X : Type 0} (x : ℕ) (place moved : ℕ → Option ℕ) (same : (i : ℕ) → nat_eq x i ≡ false → moved i ≡ place i) where
  pub later_moved : (p : Option ℕ) (es : List (ℕ × X)) → lookup (nat_eq x) es ≡ None → AreLater place p es → AreLater moved p es
  later_moved p [] a h = tt
  later_moved p (e ∷ es) a h =
      let b = absent_head x e es a in
      (ap (is_earlier p) (same e.0 b.0) ∙ h.0, later_moved p es b.1 h.1)

  -- another key gets a place: the order of these stays
  pub order_moved : (es : List (ℕ × X)) → lookup (nat_eq x) es ≡ None → IsInOrder place es → IsInOrder moved es
  order_moved [] a h = tt
  order_moved (e ∷ es) a h =
      let b = absent_head x e es a in
      let s : moved e.0 ≡ place e.0 = same e.0 b.0 in
      (ap (λ p. is_earlier p None) s ∙ h.0, subst (λ p. AreLater moved p es) (sym s) (later_moved (place e.0) es b.1 h.1), order_moved es b.1 h.2)

module _ {X : Type 0} (place : ℕ → Option ℕ) where
  pub later_same : (moved : ℕ → Option ℕ) → ((i : ℕ) → moved i ≡ place i) → (p : Option ℕ) (es : List (ℕ × X)) → AreLater place p es → AreLater moved p es
  later_same moved same p [] h = tt
  later_same moved same p (e ∷ es) h = (ap (is_earlier p) (same e.0) ∙ h.0, later_same moved same p es h.1)

  pub order_same : (moved : ℕ → Option ℕ) → ((i : ℕ) → moved i ≡ place i) → (es : List (ℕ × X)) → IsInOrder place es → IsInOrder moved es
  order_same moved same [] h = tt
  order_same moved same (e ∷ es) h =
      let s : moved e.0 ≡ place e.0 = same e.0 in
      (ap (λ p. is_earlier p None) s ∙ h.0, subst (λ p. AreLater moved p es) (sym s) (later_same moved same (place e.0) es h.1), order_same moved same es h.2)

  -- a key goes
  pub later_without : (x : ℕ) (p : Option ℕ) (es : List (ℕ × X)) → AreLater place p es → AreLater place p (remove_entry (nat_eq x) es)
  later_without x p [] h = tt
  later_without x p (e ∷ es) h = by (tested (nat_eq x e.0)) (later_without x p es h.1)
    where
      by : Tested (nat_eq x e.0) → AreLater place p (remove_entry (nat_eq x) es) → AreLater place p (remove_entry (nat_eq x) (e ∷ es))
      by (inl t) r = rw t h.1
      by (inr t) r = rw t (h.0, r)

  pub order_without : (x : ℕ) (es : List (ℕ × X)) → IsInOrder place es → IsInOrder place (remove_entry (nat_eq x) es)
  order_without x [] h = tt
  order_without x (e ∷ es) h = by (tested (nat_eq x e.0)) (order_without x es h.2)
    where
      by : Tested (nat_eq x e.0) → IsInOrder place (remove_entry (nat_eq x) es) → IsInOrder place (remove_entry (nat_eq x) (e ∷ es))
      by (inl t) r = rw t h.2
      by (inr t) r = rw t (h.0, later_without x (place e.0) es h.1, r)

  -- a filter keeps the order
  pub later_filter : (test : ℕ × X → Bool) (p : Option ℕ) (es : List (ℕ × X)) → AreLater place p es → AreLater place p (filter test es)
  later_filter test p [] h = tt
  later_filter test p (e ∷ es) h = by (tested (test e)) (later_filter test p es h.1)
    where
      by : Tested (test e) → AreLater place p (filter test es) → AreLater place p (filter test (e ∷ es))
      by (inl t) r = rw t (h.0, r)
      by (inr t) r = rw t r

  pub order_filter : (test : ℕ × X → Bool) (es : List (ℕ × X)) → IsInOrder place es → IsInOrder place (filter test es)
  order_filter test [] h = tt
  order_filter test (e ∷ es) h = by (tested (test e)) (order_filter test es h.2)
    where
      by : Tested (test e) → IsInOrder place (filter test es) → IsInOrder place (filter test (e ∷ es))
      by (inl t) r = rw t (h.0, later_filter test (place e.0) es h.1, r)
      by (inr t) r = rw t r

  -- a key comes, whose place is after all
  pub later_push : (p : Option ℕ) (es : List (ℕ × X)) (e : ℕ × X) → AreLater place p es → is_earlier p (place e.0) ≡ true → AreLater place p (es ++ e ∷ [])
  later_push p [] e h l = (l, tt)
  later_push p (d ∷ es) e h l = (h.0, later_push p es e h.1 l)

  pub order_push : (es : List (ℕ × X)) (e : ℕ × X) (last now : ℕ) → IsInOrder place es → place e.0 ≡ Some now → last < now
      → lookup (nat_eq e.0) es ≡ None → ((i : ℕ) → nat_eq e.0 i ≡ false → IsUpTo last (place i)) → IsInOrder place (es ++ e ∷ [])
  order_push [] e last now h is l a b = (ap (λ p. is_earlier p None) is, tt, tt)
  order_push (d ∷ es) e last now h is l a b =
      let f = absent_head e.0 d es a in
      let g : is_earlier (place d.0) (place e.0) ≡ true = ap (is_earlier (place d.0)) is ∙ earlier_now (place d.0) last now h.0 (b d.0 f.0) l in
      (h.0, later_push (place d.0) es e h.1 g, order_push es e last now h.2 is l f.1 b)

  -- keys in order are apart
  apart_later : (x : ℕ) (es : List (ℕ × X)) → AreLater place (place x) es → AllByRecursion (λ y. nat_eq x y ≡ false) (keys_of es)
  apart_later x [] h = tt
  apart_later x (e ∷ es) h = (by (tested (nat_eq x e.0)), apart_later x es h.1)
    where
      by : Tested (nat_eq x e.0) → nat_eq x e.0 ≡ false
      by (inl t) =
          let s : x ≡ e.0 = eqb-true x e.0 t in
          absurd (true≢false (sym h.0 ∙ ap (λ i. is_earlier (place i) (place e.0)) s ∙ earlier_self (place e.0)))
      by (inr t) = t

  pub order_distinct : (es : List (ℕ × X)) → IsInOrder place es → IsDistinct nat_eq (keys_of es)
  unfolding IsDistinct
  order_distinct [] h = tt
  order_distinct (e ∷ es) h = (apart_later e.0 es h.1, order_distinct es h.2)

  -- what a look-up gives once a key has gone
  pub lookup_without : (x i : ℕ) (es : List (ℕ × X)) → IsInOrder place es → lookup (nat_eq i) (remove_entry (nat_eq x) es) ≡ cond (nat_eq x i) None (lookup (nat_eq i) es)
  lookup_without x i es h = lookup-remove_entry nat_eq_equiv (nat_eq x) (λ a b t. nat_eq_equiv.congr x a b t) i es (order_distinct es h)

-- what a look-up gives once a new key has come
pub lookup_push : {X : Type 0} (e : ℕ × X) (i : ℕ) (es : List (ℕ × X)) → lookup (nat_eq e.0) es ≡ None → lookup (nat_eq i) (es ++ e ∷ []) ≡ cond (nat_eq e.0 i) (Some e.1) (lookup (nat_eq i) es)
lookup_push e i [] a = ap (λ b. cond b (Some e.1) None) (nat_eq_equiv.symm i e.0)
lookup_push e i (d ∷ es) a = by (tested (nat_eq i d.0)) (lookup_push e i es f.1)
  where
    f : (nat_eq e.0 d.0 ≡ false) × (lookup (nat_eq e.0) es ≡ None)
    f = absent_head e.0 d es a

    by : Tested (nat_eq i d.0) → lookup (nat_eq i) (es ++ e ∷ []) ≡ cond (nat_eq e.0 i) (Some e.1) (lookup (nat_eq i) es) → lookup (nat_eq i) (d ∷ es ++ e ∷ []) ≡ cond (nat_eq e.0 i) (Some e.1) (lookup (nat_eq i) (d ∷ es))
    by (inl t) r =
        let s : i ≡ d.0 = eqb-true i d.0 t in
        let n : nat_eq e.0 i ≡ false = ap (nat_eq e.0) s ∙ f.0 in
        rw (t, n)
    by (inr t) r = rw t r
