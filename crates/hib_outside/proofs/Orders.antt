-- The order of keys, and what keeps tables in it.
use Rattle.std.proofs.Common.{◌≡◌, ◌⊎◌, inl, inr, ◌<◌, true, false, ◌&&◌, ◌==◌, nat_lt, List, [], ◌∷◌, Some, None, Option, refl, sym, ◌∙◌, subst, eq-eqb, arith}
use Rattle.std.proofs.lemmas.Bool.{eqb-true, ltb-true, lt-ltb, and_parts, and_from, or_cases, or_left, or_right, both_ways, cases_order}
use Rattle.hib_base.specs.Keys.{same_key, is_before}
use Rattle.hib_base.specs.Tables.{Tables, row_at, with_row, without_row, tables_with, unless_there, with_absent, key_of, row_left, after_change, after_changes, is_first, in_order}
use Rattle.hib_base.proofs.Tables.{same_key_eq, Tested, tested}
use Rattle.hib_base.specs.Start.{widened}
use Rattle.hib_base.specs.declared.scripts.EntityDef.{EntityDef}
use Rattle.hib_outside.specs.Types.{Key, Row, Change}

-- what it says that a key comes before another
pub record Precedes (a b : Key) : Type 0 where
  pub by : (a.entity < b.entity) ⊎ ((a.entity ≡ b.entity) × (a.id < b.id))

pub precedes : (a b : Key) → is_before a b ≡ true → Precedes a b
precedes a b h = by_parts (or_cases (nat_lt a.entity b.entity) ((a.entity == b.entity) && nat_lt a.id b.id) h)
  where
    by_parts : (nat_lt a.entity b.entity ≡ true) ⊎ (((a.entity == b.entity) && nat_lt a.id b.id) ≡ true) → Precedes a b
    by_parts (inl p) = record { by = inl (ltb-true a.entity b.entity p) }
    by_parts (inr p) =
        let q : ((a.entity == b.entity) ≡ true) × (nat_lt a.id b.id ≡ true) = and_parts (a.entity == b.entity) (nat_lt a.id b.id) p in
        record { by = inr (eqb-true a.entity b.entity q.0, ltb-true a.id b.id q.1) }

pub from_precedes : (a b : Key) → Precedes a b → is_before a b ≡ true
from_precedes a b h = by_parts h.by
  where
    by_parts : (a.entity < b.entity) ⊎ ((a.entity ≡ b.entity) × (a.id < b.id)) → is_before a b ≡ true
    by_parts (inl p) = or_left (nat_lt a.entity b.entity) ((a.entity == b.entity) && nat_lt a.id b.id) (lt-ltb a.entity b.entity p)
    by_parts (inr p) =
        or_right (nat_lt a.entity b.entity) ((a.entity == b.entity) && nat_lt a.id b.id)
        (and_from (a.entity == b.entity) (nat_lt a.id b.id) (eq-eqb a.entity b.entity p.0) (lt-ltb a.id b.id p.1))

pub is_before_trans : (a b c : Key) → is_before a b ≡ true → is_before b c ≡ true → is_before a c ≡ true
is_before_trans a b c p q = from_precedes a c (record { by = joined (precedes a b p).by (precedes b c q).by })
  where
    joined : (a.entity < b.entity) ⊎ ((a.entity ≡ b.entity) × (a.id < b.id)) → (b.entity < c.entity) ⊎ ((b.entity ≡ c.entity) × (b.id < c.id))
        → (a.entity < c.entity) ⊎ ((a.entity ≡ c.entity) × (a.id < c.id))
    joined (inl x) (inl y) = inl (omega arith)
    joined (inl x) (inr y) = inl (let e : b.entity ≡ c.entity = y.0 in omega arith)
    joined (inr x) (inl y) = inl (let e : a.entity ≡ b.entity = x.0 in omega arith)
    joined (inr x) (inr y) = inr (x.0 ∙ y.0, (let f : a.id < b.id = x.1 in let g : b.id < c.id = y.1 in omega arith))

pub is_before_self : (a : Key) → is_before a a ≡ true → (A : Type 0) → A
is_before_self a h A = none (precedes a a h).by
  where
    none : (a.entity < a.entity) ⊎ ((a.entity ≡ a.entity) × (a.id < a.id)) → A
    none (inl x) = absurd (omega arith)
    none (inr x) = absurd (let y : a.id < a.id = x.1 in omega arith)

-- keys of which one comes before the other are different
pub before_differs : (a b : Key) → is_before a b ≡ true → same_key b a ≡ false
before_differs a b h = at (tested (same_key b a))
  where
    at : Tested (same_key b a) → same_key b a ≡ false
    at (inl p) = is_before_self a (subst (λ k. is_before a k ≡ true) (same_key_eq b a p) h) (same_key b a ≡ false)
    at (inr p) = p

-- of two keys one comes first
pub is_before_total : (a b : Key) → same_key a b ≡ false → is_before b a ≡ false → is_before a b ≡ true
is_before_total a b d n = at (cases_order a.entity b.entity) (cases_order a.id b.id)
  where
    other : Precedes b a → is_before a b ≡ true
    other h = absurd (both_ways (is_before b a) n (from_precedes b a h))

    at : (a.entity ≡ b.entity) ⊎ ((a.entity < b.entity) ⊎ (b.entity < a.entity)) → (a.id ≡ b.id) ⊎ ((a.id < b.id) ⊎ (b.id < a.id)) → is_before a b ≡ true
    at (inl e) (inl f) = absurd (both_ways (same_key a b) d (and_from (a.entity == b.entity) (a.id == b.id) (eq-eqb a.entity b.entity e) (eq-eqb a.id b.id f)))
    at (inl e) (inr (inl f)) = from_precedes a b (record { by = inr (e, f) })
    at (inl e) (inr (inr f)) = other (record { by = inr (sym e, f) })
    at (inr (inl e)) f = from_precedes a b (record { by = inl e })
    at (inr (inr e)) f = other (record { by = inl e })

-- a key before the first of tables
pub is_first_trans : (a b : Key) (t : Tables) → is_before a b ≡ true → is_first b t ≡ true → is_first a t ≡ true
is_first_trans a b [] p q = refl
is_first_trans a b (e ∷ es) p q = is_before_trans a b e.0 p q

pub rest_in_order : (e : Key × Row) (es : Tables) → in_order (e ∷ es) ≡ true → (is_first e.0 es ≡ true) × (in_order es ≡ true)
rest_in_order e es h = and_parts (is_first e.0 es) (in_order es) h

-- a key that comes before all has no row
pub row_at_before : (t : Tables) (k : Key) → in_order t ≡ true → is_first k t ≡ true → row_at t k ≡ None
row_at_before [] k o h = refl
row_at_before (e ∷ es) k o h =
    let p : (is_first e.0 es ≡ true) × (in_order es ≡ true) = rest_in_order e es o in
    rw (before_differs k e.0 h) (row_at_before es k p.1 (is_first_trans k e.0 es h p.0))

pub without_row_before : (t : Tables) (k : Key) → in_order t ≡ true → is_first k t ≡ true → without_row t k ≡ t
without_row_before [] k o h = refl
without_row_before (e ∷ es) k o h =
    let p : (is_first e.0 es ≡ true) × (in_order es ≡ true) = rest_in_order e es o in
    rw (before_differs k e.0 h, without_row_before es k p.1 (is_first_trans k e.0 es h p.0)) refl

is_first_with : (j k : Key) (r : Row) (t : Tables) → is_first j t ≡ true → is_before j k ≡ true → is_first j (with_row t k r) ≡ true
is_first_with j k r [] p q = q
is_first_with j k r (e ∷ es) p q = at (tested (same_key e.0 k)) (tested (is_before k e.0))
  where
    at : Tested (same_key e.0 k) → Tested (is_before k e.0) → is_first j (with_row (e ∷ es) k r) ≡ true
    at (inl s) b = rw s q
    at (inr s) (inl b) = rw (s, b) q
    at (inr s) (inr b) = rw (s, b) p

-- tables stay in order when a key is given a row
pub in_order_with_row : (t : Tables) (k : Key) (r : Row) → in_order t ≡ true → in_order (with_row t k r) ≡ true
in_order_with_row [] k r o = refl
in_order_with_row (e ∷ es) k r o =
    let p : (is_first e.0 es ≡ true) × (in_order es ≡ true) = rest_in_order e es o in
    at (tested (same_key e.0 k)) (tested (is_before k e.0)) p (in_order_with_row es k r p.1)
  where
    at : Tested (same_key e.0 k) → Tested (is_before k e.0) → (is_first e.0 es ≡ true) × (in_order es ≡ true) → in_order (with_row es k r) ≡ true
        → in_order (with_row (e ∷ es) k r) ≡ true
    at (inl s) b p q = rw s (and_from (is_first k es) (in_order es) (subst (λ j. is_first j es ≡ true) (same_key_eq e.0 k s) p.0) p.1)
    at (inr s) (inl b) p q = rw (s, b) (and_from (is_before k e.0) (is_first e.0 es && in_order es) b o)
    at (inr s) (inr b) p q =
        rw (s, b)
        (and_from (is_first e.0 (with_row es k r)) (in_order (with_row es k r)) (is_first_with e.0 k r es p.0 (is_before_total e.0 k s b)) q)

is_first_without : (j k : Key) (t : Tables) → in_order t ≡ true → is_first j t ≡ true → is_first j (without_row t k) ≡ true
is_first_without j k [] o h = refl
is_first_without j k (e ∷ es) o h =
    let p : (is_first e.0 es ≡ true) × (in_order es ≡ true) = rest_in_order e es o in
    at (tested (same_key e.0 k)) (is_first_without j k es p.1 (is_first_trans j e.0 es h p.0))
  where
    at : Tested (same_key e.0 k) → is_first j (without_row es k) ≡ true → is_first j (without_row (e ∷ es) k) ≡ true
    at (inl s) q = rw s q
    at (inr s) q = rw s h

-- tables stay in order when a key loses its row
pub in_order_without_row : (t : Tables) (k : Key) → in_order t ≡ true → in_order (without_row t k) ≡ true
in_order_without_row [] k o = refl
in_order_without_row (e ∷ es) k o =
    let p : (is_first e.0 es ≡ true) × (in_order es ≡ true) = rest_in_order e es o in
    at (tested (same_key e.0 k)) (is_first_without e.0 k es p.1 p.0) (in_order_without_row es k p.1)
  where
    at : Tested (same_key e.0 k) → is_first e.0 (without_row es k) ≡ true → in_order (without_row es k) ≡ true → in_order (without_row (e ∷ es) k) ≡ true
    at (inl s) f q = rw s q
    at (inr s) f q = rw s (and_from (is_first e.0 (without_row es k)) (in_order (without_row es k)) f q)

in_order_tables_with : (t : Tables) (k : Key) (o : Option Row) → in_order t ≡ true → in_order (tables_with t k o) ≡ true
in_order_tables_with t k (Some r) h = in_order_with_row t k r h
in_order_tables_with t k None h = in_order_without_row t k h

pub in_order_change : (c : Change) (t : Tables) → in_order t ≡ true → in_order (after_change c t) ≡ true
in_order_change c t h = in_order_tables_with t (key_of c) (row_left c) h

pub in_order_changes : (cs : List Change) (t : Tables) → in_order t ≡ true → in_order (after_changes cs t) ≡ true
in_order_changes [] t h = h
in_order_changes (c ∷ cs) t h = in_order_changes cs (after_change c t) (in_order_change c t h)

pub in_order_unless_there : (t : Tables) (k : Key) (r : Row) (o : Option Row) → in_order t ≡ true → in_order (unless_there t k r o) ≡ true
in_order_unless_there t k r None h = in_order_with_row t k r h
in_order_unless_there t k r (Some old) h = h

pub in_order_with_absent : (t es : Tables) → in_order t ≡ true → in_order (with_absent t es) ≡ true
in_order_with_absent t [] h = h
in_order_with_absent t (e ∷ es) h = in_order_with_absent (unless_there t e.0 e.1 (row_at t e.0)) es (in_order_unless_there t e.0 e.1 (row_at t e.0) h)

-- tables stay in order when their rows are widened
is_first_widened : (m : List EntityDef) (k : Key) (t : Tables) → is_first k t ≡ true → is_first k (widened m t) ≡ true
is_first_widened m k [] h = h
is_first_widened m k (e ∷ es) h = h

pub in_order_widened : (m : List EntityDef) (t : Tables) → in_order t ≡ true → in_order (widened m t) ≡ true
in_order_widened m [] o = refl
in_order_widened m (e ∷ es) o =
    let p : (is_first e.0 es ≡ true) × (in_order es ≡ true) = rest_in_order e es o in
    and_from (is_first e.0 (widened m es)) (in_order (widened m es)) (is_first_widened m e.0 es p.0) (in_order_widened m es p.1)
