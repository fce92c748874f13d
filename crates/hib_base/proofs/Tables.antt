-- The laws of tables: what a list of changes leaves at one key.
use Rattle.std.proofs.Common.{◌≡◌, ◌⊎◌, inl, inr, Bool, true, false, ◌==◌, List, [], ◌∷◌, Some, None, Option, refl, ◌∙◌, subst, eq-eqb}
use Rattle.std.proofs.lemmas.Bool.{eqb-true, and_parts, and_from}
use Rattle.hib_base.specs.Types.{Key, Row, Change}
use Rattle.hib_base.specs.Keys.{same_key, is_before}
use Rattle.hib_base.specs.Tables.{Tables, row_at, with_row, without_row, tables_with, key_of, row_left, after_change, after_changes, last_on}

pub same_key_refl : (k : Key) → same_key k k ≡ true
same_key_refl k = and_from (k.entity == k.entity) (k.id == k.id) (eq-eqb k.entity k.entity refl) (eq-eqb k.id k.id refl)

pub same_key_eq : (a b : Key) → same_key a b ≡ true → a ≡ b
same_key_eq a b h =
    let p : ((a.entity == b.entity) ≡ true) × ((a.id == b.id) ≡ true) = and_parts (a.entity == b.entity) (a.id == b.id) h in
    let e : a.entity ≡ b.entity = eqb-true a.entity b.entity p.0 in
    let f : a.id ≡ b.id = eqb-true a.id b.id p.1 in
    λ i. record { entity = e i; id = f i }

-- a test that is made first, and then decides
abbrev pub Tested : Bool → Type 0
Tested b = (b ≡ true) ⊎ (b ≡ false)

pub tested : (b : Bool) → Tested b
tested true = inl refl
tested false = inr refl

pub row_at_with_same : (t : Tables) (k : Key) (r : Row) → row_at (with_row t k r) k ≡ Some r
row_at_with_same [] k r = rw (same_key_refl k)
row_at_with_same (e ∷ es) k r = at_entry (tested (same_key e.0 k)) (tested (is_before k e.0)) (row_at_with_same es k r)
  where
    at_entry : Tested (same_key e.0 k) → Tested (is_before k e.0) → row_at (with_row es k r) k ≡ Some r → row_at (with_row (e ∷ es) k r) k ≡ Some r
    at_entry (inl p) b h = rw (p, same_key_refl k)
    at_entry (inr p) (inl b) h = rw (p, b, same_key_refl k)
    at_entry (inr p) (inr b) h = rw (p, b, p) h

pub row_at_with_other : (t : Tables) (k j : Key) (r : Row) → same_key k j ≡ false → row_at (with_row t k r) j ≡ row_at t j
row_at_with_other [] k j r d = rw d
row_at_with_other (e ∷ es) k j r d = at_entry (tested (same_key e.0 k)) (tested (is_before k e.0)) (row_at_with_other es k j r d)
  where
    at_entry : Tested (same_key e.0 k) → Tested (is_before k e.0) → row_at (with_row es k r) j ≡ row_at es j → row_at (with_row (e ∷ es) k r) j ≡ row_at (e ∷ es) j
    at_entry (inl p) b h = let q : same_key e.0 j ≡ false = rw (same_key_eq e.0 k p) d in rw (p, d, q)
    at_entry (inr p) (inl b) h = rw (p, b, d)
    at_entry (inr p) (inr b) h = rw (p, b, h)

pub row_at_without_same : (t : Tables) (k : Key) → row_at (without_row t k) k ≡ None
row_at_without_same [] k = refl
row_at_without_same (e ∷ es) k = at_entry (tested (same_key e.0 k)) (row_at_without_same es k)
  where
    at_entry : Tested (same_key e.0 k) → row_at (without_row es k) k ≡ None → row_at (without_row (e ∷ es) k) k ≡ None
    at_entry (inl p) h = rw p h
    at_entry (inr p) h = rw (p, p) h

pub row_at_without_other : (t : Tables) (k j : Key) → same_key k j ≡ false → row_at (without_row t k) j ≡ row_at t j
row_at_without_other [] k j d = refl
row_at_without_other (e ∷ es) k j d = at_entry (tested (same_key e.0 k)) (row_at_without_other es k j d)
  where
    at_entry : Tested (same_key e.0 k) → row_at (without_row es k) j ≡ row_at es j → row_at (without_row (e ∷ es) k) j ≡ row_at (e ∷ es) j
    at_entry (inl p) h = let q : same_key e.0 j ≡ false = rw (same_key_eq e.0 k p) d in rw (p, q) h
    at_entry (inr p) h = rw (p, h)

tables_with_same : (t : Tables) (k : Key) (o : Option Row) → row_at (tables_with t k o) k ≡ o
tables_with_same t k (Some r) = row_at_with_same t k r
tables_with_same t k None = row_at_without_same t k

tables_with_other : (t : Tables) (k j : Key) (o : Option Row) → same_key k j ≡ false → row_at (tables_with t k o) j ≡ row_at t j
tables_with_other t k j (Some r) d = row_at_with_other t k j r d
tables_with_other t k j None d = row_at_without_other t k j d

pub row_at_change : (c : Change) (t : Tables) (k : Key) → same_key (key_of c) k ≡ true → row_at (after_change c t) k ≡ row_left c
row_at_change c t k h = subst (λ j. row_at (after_change c t) j ≡ row_left c) (same_key_eq (key_of c) k h) (tables_with_same t (key_of c) (row_left c))

pub row_at_other_change : (c : Change) (t : Tables) (k : Key) → same_key (key_of c) k ≡ false → row_at (after_change c t) k ≡ row_at t k
row_at_other_change c t k h = tables_with_other t (key_of c) k (row_left c) h

-- the row that the last change leaves, if there is one
abbrev pub left_by : Option Change → Option Row → Option Row
left_by None o = o
left_by (Some c) o = row_left c

-- at a key, a list of changes leaves what its last change on the key does
pub row_at_changes : (cs : List Change) (t : Tables) (k : Key) → row_at (after_changes cs t) k ≡ left_by (last_on k cs) (row_at t k)
row_at_changes [] t k = refl
row_at_changes (c ∷ cs) t k = at_change (tested (same_key (key_of c) k)) (last_on k cs) refl (row_at_changes cs (after_change c t) k)
  where
    at_change : Tested (same_key (key_of c) k) → (l : Option Change) → last_on k cs ≡ l →
        row_at (after_changes cs (after_change c t)) k ≡ left_by (last_on k cs) (row_at (after_change c t) k) →
        row_at (after_changes (c ∷ cs) t) k ≡ left_by (last_on k (c ∷ cs)) (row_at t k)
    at_change (inl p) (Some d) e h = rw e (rw e at h)
    at_change (inl p) None e h = rw (e, p) ((rw e at h) ∙ row_at_change c t k p)
    at_change (inr p) (Some d) e h = rw e (rw e at h)
    at_change (inr p) None e h = rw (e, p) ((rw e at h) ∙ row_at_other_change c t k p)
