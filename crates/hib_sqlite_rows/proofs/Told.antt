-- Rows of SQL as tables: what is told at a key, and that this settles the tables.
use Rattle.std.proofs.Common.{ℕ, ◌==◌, All, IfSome, ◌≡◌, ◌≢◌, ◌⊎◌, inl, inr, true, false, List, [], ◌∷◌, Some, None, refl, sym, ◌∙◌, subst, ap, true≢false}
use Rattle.sqlite_value.specs.Order.{Row as SqlRow}
use Rattle.std.proofs.lemmas.List.Elements.{All-from_recursion}
use Rattle.sqlite_rules.specs.Lists.{Has}
use Rattle.sqlite_rules.proofs.ListLemmas.{all_from, has_filtered}
use Rattle.sqlite_trees.specs.Tree.{IsTable}
use Rattle.hib_sqlite_rows.specs.Types.{Key, Row}
use Rattle.hib_sqlite_rows.specs.Ordered.{tables_in_order}
use Rattle.hib_base.specs.Keys.{same_key, is_before}
use Rattle.hib_base.specs.Tables.{Tables, row_at, with_row, without_row, is_first, in_order}
use Rattle.hib_sqlite_rows.specs.Body.{IsPackable}
use Rattle.hib_sqlite_rows.specs.Told.{rows_in}
use Rattle.hib_sqlite_rows.specs.Stored.{key_in, row_in, entry_in, tables_of, IsKept, AreKept}
use Rattle.hib_base.proofs.Tables.{same_key_refl, same_key_eq, Tested, tested, row_at_with_same, row_at_with_other, row_at_without_same, row_at_without_other}
use Rattle.hib_outside.proofs.Orders.{is_before_total, rest_in_order, row_at_before, in_order_with_row, in_order_without_row}

-- no row has the key
pub told_none : (rows : List SqlRow) (k : Key) → ((r : SqlRow) → Has rows r → same_key (key_in r) k ≡ false) → row_at (tables_of rows) k ≡ None
told_none [] k h = refl
told_none (r ∷ rs) k h = row_at_with_other (tables_of rs) (key_in r) k (row_in r) (h r (inl refl)) ∙ told_none rs k (λ s m. h s (inr m))

pub told_some : (rows : List SqlRow) (r : SqlRow) → ((s t : SqlRow) → Has rows s → Has rows t → key_in s ≡ key_in t → s ≡ t) → Has rows r → row_at (tables_of rows) (key_in r) ≡ Some (row_in r)
told_some [] r one h = absurd h
told_some (s ∷ rs) r one h = at (tested (same_key (key_in s) (key_in r))) (told_some rs r (λ a b m n. one a b (inr m) (inr n)))
  where
    later : same_key (key_in s) (key_in r) ≡ false → Has (s ∷ rs) r → Has rs r
    later p (inl e) = absurd (true≢false (sym (same_key_refl (key_in s)) ∙ subst (λ x. same_key (key_in s) (key_in x) ≡ false) e p))
    later p (inr m) = m

    at : Tested (same_key (key_in s) (key_in r)) → (Has rs r → row_at (tables_of rs) (key_in r) ≡ Some (row_in r)) → row_at (tables_of (s ∷ rs)) (key_in r) ≡ Some (row_in r)
    at (inl p) more =
        let e : s ≡ r = one s r (inl refl) h (same_key_eq (key_in s) (key_in r) p) in
        subst (λ x. row_at (tables_of (s ∷ rs)) (key_in x) ≡ Some (row_in x)) e (row_at_with_same (tables_of rs) (key_in s) (row_in s))
    at (inr p) more = row_at_with_other (tables_of rs) (key_in s) (key_in r) (row_in s) p ∙ more (later p h)

abbrev pub Found : List SqlRow → Key → Type 0
Found rows k = ((r : SqlRow) × Has rows r × (key_in r ≡ k)) ⊎ ((r : SqlRow) → Has rows r → same_key (key_in r) k ≡ false)

-- a row has the key, or none
pub found : (rows : List SqlRow) (k : Key) → Found rows k
found [] k = inr (λ r h. absurd h)
found (r ∷ rs) k = at (tested (same_key (key_in r) k)) (found rs k)
  where
    at : Tested (same_key (key_in r) k) → Found rs k → Found (r ∷ rs) k
    at (inl p) more = inl (r, inl refl, same_key_eq (key_in r) k p)
    at (inr p) (inl m) = inl (m.0, inr m.1, m.2)
    at (inr p) (inr none) = inr (λ s h. elim h [ inl e ↦ subst (λ x. same_key (key_in x) k ≡ false) (sym e) p | inr m ↦ none s m ])

-- tables with the same row at each key are the same
pub tables_same : (s t : Tables) → in_order s ≡ true → in_order t ≡ true → ((k : Key) → row_at s k ≡ row_at t k) → s ≡ t
tables_same [] [] o p h = refl
tables_same [] (e ∷ es) o p h = absurd (let q = rw (same_key_refl e.0) at (h e.0) in cc)
tables_same (d ∷ ds) [] o p h = absurd (let q = rw (same_key_refl d.0) at (h d.0) in cc)
tables_same (d ∷ ds) (e ∷ es) o p h = at (tested (same_key d.0 e.0)) (tested (is_before e.0 d.0)) (tables_same ds es (rest_in_order d ds o).1 (rest_in_order e es p).1)
  where
    first : (is_first d.0 ds ≡ true) × (in_order ds ≡ true)
    first = rest_in_order d ds o

    second : (is_first e.0 es ≡ true) × (in_order es ≡ true)
    second = rest_in_order e es p

    rest : d.0 ≡ e.0 → (k : Key) → Tested (same_key d.0 k) → row_at ds k ≡ row_at es k
    rest same k (inl q) =
        let here : d.0 ≡ k = same_key_eq d.0 k q in
        row_at_before ds k first.1 (subst (λ j. is_first j ds ≡ true) here first.0) ∙ sym (row_at_before es k second.1 (subst (λ j. is_first j es ≡ true) (sym same ∙ here) second.0))
    rest same k (inr q) = let r : same_key e.0 k ≡ false = subst (λ j. same_key j k ≡ false) same q in rw (q, r) at (h k)

    at : Tested (same_key d.0 e.0) → Tested (is_before e.0 d.0) → (((k : Key) → row_at ds k ≡ row_at es k) → ds ≡ es) → d ∷ ds ≡ e ∷ es
    at (inl q) b later =
        let same : d.0 ≡ e.0 = same_key_eq d.0 e.0 q in
        let value : Some d.1 ≡ Some e.1 = rw (q, same_key_refl e.0) at (h e.0) in
        let more : ds ≡ es = later (λ k. rest same k (tested (same_key d.0 k))) in
        let entry : d.1 ≡ e.1 = cc in
        λ i. (same i, entry i) ∷ more i
    at (inr q) (inl b) later =
        let none : row_at (d ∷ ds) e.0 ≡ None = row_at_before (d ∷ ds) e.0 o b in
        absurd (let r = rw (none, same_key_refl e.0) at (h e.0) in cc)
    at (inr q) (inr b) later =
        let none : row_at (e ∷ es) d.0 ≡ None = row_at_before (e ∷ es) d.0 p (is_before_total d.0 e.0 q b) in
        absurd (let r = rw (none, same_key_refl d.0) at (h d.0) in cc)

pub with_without : (t : Tables) (k : Key) (r : Row) → in_order t ≡ true → with_row (without_row t k) k r ≡ with_row t k r
with_without t k r o =
    tables_same (with_row (without_row t k) k r) (with_row t k r) (in_order_with_row (without_row t k) k r (in_order_without_row t k o)) (in_order_with_row t k r o) (λ j. at j (tested (same_key k j)))
  where
    at : (j : Key) → Tested (same_key k j) → row_at (with_row (without_row t k) k r) j ≡ row_at (with_row t k r) j
    at j (inl q) = subst (λ x. row_at (with_row (without_row t k) k r) x ≡ row_at (with_row t k r) x) (same_key_eq k j q) (row_at_with_same (without_row t k) k r ∙ sym (row_at_with_same t k r))
    at j (inr q) = row_at_with_other (without_row t k) k j r q ∙ row_at_without_other t k j q ∙ sym (row_at_with_other t k j r q)

-- what the rows after an insertion have
pub record Adds (rows after : List SqlRow) (new : SqlRow) : Type 0 where
  pub each : (x : SqlRow) → Has after x → (x ≡ new) ⊎ Has rows x
  pub new_one : Has after new
  pub old_ones : (x : SqlRow) → Has rows x → Has after x
  pub table : IsTable after

pub record Removes (rows after : List SqlRow) (k : Key) : Type 0 where
  pub each : (x : SqlRow) → Has after x → Has rows x × (same_key (key_in x) k ≡ false)
  pub kept : (x : SqlRow) → Has rows x → same_key (key_in x) k ≡ false → Has after x
  pub table : IsTable after

absent : (rows : List SqlRow) (k : Key) → AreKept rows → row_at (tables_of rows) k ≡ None → (x : SqlRow) → Has rows x → key_in x ≢ k
absent rows k are none x h e =
    let some : row_at (tables_of rows) k ≡ Some (row_in x) = subst (λ j. row_at (tables_of rows) j ≡ Some (row_in x)) e (told_some rows x are.keys h) in cc

pub added_kept : (rows after : List SqlRow) (new : SqlRow) → AreKept rows → IsKept new → Adds rows after new → row_at (tables_of rows) (key_in new) ≡ None → AreKept after
added_kept rows after new are is adds none = record {
  all = λ r h. elim (adds.each r h) [ inl e ↦ subst IsKept (sym e) is | inr m ↦ are.all r m ];
  keys = λ r s h k same. elim (adds.each r h) [
    | inl e ↦ elim (adds.each s k) [ inl f ↦ e ∙ sym f | inr n ↦ absurd (absent rows (key_in new) are none s n (sym same ∙ ap key_in e)) ]
    | inr m ↦ elim (adds.each s k) [ inl f ↦ absurd (absent rows (key_in new) are none r m (same ∙ ap key_in f)) | inr n ↦ are.keys r s m n same ]
  ];
  table = adds.table;
}

pub removed_kept : (rows after : List SqlRow) (k : Key) → AreKept rows → Removes rows after k → AreKept after
removed_kept rows after k are removes = record {
  all = λ r h. are.all r (removes.each r h).0;
  keys = λ r s h k. are.keys r s (removes.each r h).0 (removes.each s k).0;
  table = removes.table;
}

pub added_told : (rows after : List SqlRow) (new : SqlRow) → AreKept rows → AreKept after → Adds rows after new → tables_of after ≡ with_row (tables_of rows) (key_in new) (row_in new)
added_told rows after new are now adds =
    tables_same (tables_of after) (with_row (tables_of rows) (key_in new) (row_in new)) (tables_in_order after) (in_order_with_row (tables_of rows) (key_in new) (row_in new) (tables_in_order rows))
    (λ k. at k (tested (same_key (key_in new) k)))
  where
    other : (k : Key) → same_key (key_in new) k ≡ false → Found rows k → row_at (tables_of after) k ≡ row_at (tables_of rows) k
    other k q (inl m) =
        subst (λ j. row_at (tables_of after) j ≡ row_at (tables_of rows) j) m.2 (told_some after m.0 now.keys (adds.old_ones m.0 m.1) ∙ sym (told_some rows m.0 are.keys m.1))
    other k q (inr none) =
        told_none after k (λ x h. elim (adds.each x h) [ inl e ↦ subst (λ y. same_key (key_in y) k ≡ false) (sym e) q | inr m ↦ none x m ]) ∙ sym (told_none rows k none)

    at : (k : Key) → Tested (same_key (key_in new) k) → row_at (tables_of after) k ≡ row_at (with_row (tables_of rows) (key_in new) (row_in new)) k
    at k (inl q) =
        subst (λ j. row_at (tables_of after) j ≡ row_at (with_row (tables_of rows) (key_in new) (row_in new)) j) (same_key_eq (key_in new) k q)
        (told_some after new now.keys adds.new_one ∙ sym (row_at_with_same (tables_of rows) (key_in new) (row_in new)))
    at k (inr q) = other k q (found rows k) ∙ sym (row_at_with_other (tables_of rows) (key_in new) k (row_in new) q)

pub removed_told : (rows after : List SqlRow) (k : Key) → AreKept rows → Removes rows after k → tables_of after ≡ without_row (tables_of rows) k
removed_told rows after k are removes =
    tables_same (tables_of after) (without_row (tables_of rows) k) (tables_in_order after) (in_order_without_row (tables_of rows) k (tables_in_order rows)) (λ j. at j (tested (same_key k j)))
  where
    now : AreKept after
    now = removed_kept rows after k are removes

    turned : (a b : Key) → same_key a b ≡ false → Tested (same_key b a) → same_key b a ≡ false
    turned a b q (inl p) = absurd (true≢false (sym (same_key_refl a) ∙ subst (λ x. same_key a x ≡ false) (same_key_eq b a p) q))
    turned a b q (inr p) = p

    other : (j : Key) → same_key k j ≡ false → Found rows j → row_at (tables_of after) j ≡ row_at (tables_of rows) j
    other j q (inl m) =
        let apart : same_key (key_in m.0) k ≡ false = subst (λ x. same_key x k ≡ false) (sym m.2) (turned k j q (tested (same_key j k))) in
        subst (λ x. row_at (tables_of after) x ≡ row_at (tables_of rows) x) m.2 (told_some after m.0 now.keys (removes.kept m.0 m.1 apart) ∙ sym (told_some rows m.0 are.keys m.1))
    other j q (inr none) = told_none after j (λ x h. none x (removes.each x h).0) ∙ sym (told_none rows j none)

    at : (j : Key) → Tested (same_key k j) → row_at (tables_of after) j ≡ row_at (without_row (tables_of rows) k) j
    at j (inl q) =
        subst (λ x. row_at (tables_of after) x ≡ row_at (without_row (tables_of rows) k) x) (same_key_eq k j q) (told_none after k (λ x h. (removes.each x h).1) ∙ sym (row_at_without_same (tables_of rows) k))
    at j (inr q) = other j q (found rows j) ∙ sym (row_at_without_other (tables_of rows) k j q)

-- ---- each row that is told has a body

pub packable_at : (rows : List SqlRow) (k : Key) → AreKept rows → IfSome (row_at (tables_of rows) k) (λ r. IsPackable r.cells)
packable_at rows k are = by (found rows k)
  where
    by : Found rows k → IfSome (row_at (tables_of rows) k) (λ r. IsPackable r.cells)
    by (inl m) = subst (λ o. IfSome o (λ r. IsPackable r.cells)) (sym (subst (λ j. row_at (tables_of rows) j ≡ Some (row_in m.0)) m.2 (told_some rows m.0 are.keys m.1))) (are.all m.0 m.1).range.cells
    by (inr none) = subst (λ o. IfSome o (λ r. IsPackable r.cells)) (sym (told_none rows k none)) tt

with_row_has : (t : Tables) (k : Key) (r : Row) (e : Key × Row) → Has (with_row t k r) e → (e ≡ (k, r)) ⊎ Has t e
with_row_has [] k r e (inl same) = inl same
with_row_has [] k r e (inr none) = absurd none
with_row_has (d ∷ ds) k r e h = at (tested (same_key d.0 k)) (tested (is_before k d.0)) (with_row_has ds k r e) h
  where
    at : Tested (same_key d.0 k) → Tested (is_before k d.0) → (Has (with_row ds k r) e → (e ≡ (k, r)) ⊎ Has ds e) → Has (with_row (d ∷ ds) k r) e → (e ≡ (k, r)) ⊎ Has (d ∷ ds) e
    at (inl p) b later h = elim (rw p at h) [ inl same ↦ inl same | inr m ↦ inr (inr m) ]
    at (inr p) (inl b) later h = elim (rw (p, b) at h) [ inl same ↦ inl same | inr m ↦ inr m ]
    at (inr p) (inr b) later h = elim (rw (p, b) at h) [ inl same ↦ inr (inl same) | inr m ↦ elim (later m) [ inl same ↦ inl same | inr n ↦ inr (inr n) ] ]

told_has : (rows : List SqlRow) (e : Key × Row) → Has (tables_of rows) e → (r : SqlRow) × Has rows r × (e ≡ entry_in r)
told_has [] e h = absurd h
told_has (r ∷ rs) e h = elim (with_row_has (tables_of rs) (key_in r) (row_in r) e h) [
  | inl same ↦ (r, inl refl, same)
  | inr m ↦ (let it = told_has rs e m in (it.0, inr it.1, it.2))
]

pub packable_in : (rows : List SqlRow) (n : ℕ) → AreKept rows → All (λ (e : Key × Row). IsPackable e.1.cells) (rows_in n (tables_of rows))
packable_in rows n are = All-from_recursion (λ (e : Key × Row). IsPackable e.1.cells) _ (all_from (λ (e : Key × Row). IsPackable e.1.cells) (rows_in n (tables_of rows)) each)
  where
    each : (e : Key × Row) → Has (rows_in n (tables_of rows)) e → IsPackable e.1.cells
    each e h =
        let it = told_has rows e (has_filtered (λ (x : Key × Row). x.0.entity == n) (tables_of rows) e h).0 in
        subst (λ (x : Key × Row). IsPackable x.1.cells) (sym it.2) (are.all it.0 it.1).range.cells
