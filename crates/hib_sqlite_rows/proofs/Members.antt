-- What is in a tree of rows after its edits.
use Rattle.std.proofs.Common.{◌≡◌, ◌≢◌, inl, inr, ℤ, true, false, not, List, [], ◌∷◌, refl, sym, ◌∙◌, subst, ap, true≢false, Ordering, Less, Equal, Greater, int_cmp}
use Rattle.std.specs.Ordering.{is_eq}
use Rattle.std.specs.Cmp.{int_ranks}
use Rattle.std.proofs.lemmas.Bool.{not-true}
use Rattle.std.proofs.lemmas.Cmp.{tied_itself}
use Rattle.sqlite_value.specs.declared.value.Value.{Value}
use Rattle.sqlite_value.specs.declared.value.Value.TheVariants.{Int}
use Rattle.sqlite_value.specs.Order.{Row as SqlRow, value_cmp}
use Rattle.sqlite_value.proofs.OrderLemmas.{value_cmp_total, value_cmp-Int}
use Rattle.sqlite_rules.specs.Lists.{Has}
use Rattle.sqlite_rules.proofs.ListLemmas.{has_filtered, has_kept, all_has}
use Rattle.sqlite_rules.proofs.TableLemmas.{without_all_has, put_all_has, put_all_adds, put_all_keeps}
use Rattle.sqlite_trees.specs.Tree.{rowid, put_row, without_rowid, has_rowid, IsTable}
use Rattle.sqlite_trees.proofs.TreeLemmas.{IsTable-put_row}
use Rattle.sqlite_trees.proofs.ListLemmas.{ascending-filter}
use Rattle.sqlite.specs.Edit.{put_all, without_all, are_fresh, id_in}
use Rattle.hib_sqlite_rows.specs.Types.{Key}
use Rattle.hib_base.specs.Keys.{same_key}
use Rattle.hib_sqlite_rows.specs.Stored.{key_in, IsKept, AreKept}
use Rattle.hib_base.proofs.Tables.{Tested, tested}
use Rattle.hib_sqlite_rows.proofs.Told.{Adds, Removes}

pub never_below : (v : Value) → value_cmp v v ≢ Less
never_below v h = let e = tied_itself value_cmp_total v in cc

tie : (o : Ordering) → is_eq o ≡ true → o ≡ Equal
tie Less h = absurd (true≢false (sym h))
tie Equal h = refl
tie Greater h = absurd (true≢false (sym h))

tied_ints : (m n : ℤ) → int_cmp m n ≡ Equal → m ≡ n
tied_ints m n h = rw h at (int_ranks m n)

pub rowid_is : (x : SqlRow) → IsKept x → rowid x ≡ Int (id_in (rowid x))
rowid_is x is = ap rowid is.shape

pub has_own : (x : SqlRow) → IsKept x → has_rowid (id_in (rowid x)) x ≡ true
has_own x is = ap is_eq (subst (λ v. value_cmp v (Int (id_in (rowid x))) ≡ Equal) (sym (rowid_is x is)) (tied_itself value_cmp_total (Int (id_in (rowid x)))))

pub has_its : (x : SqlRow) (id : ℤ) → IsKept x → has_rowid id x ≡ true → id_in (rowid x) ≡ id
has_its x id is h =
    let e : value_cmp (rowid x) (Int id) ≡ Equal = tie (value_cmp (rowid x) (Int id)) h in
    tied_ints (id_in (rowid x)) id (sym (value_cmp-Int (id_in (rowid x)) id) ∙ subst (λ v. value_cmp v (Int id) ≡ Equal) (rowid_is x is) e)

-- rows of a table with one rowid are one row
pub one_row : (rows : List SqlRow) (x y : SqlRow) → IsTable rows → Has rows x → Has rows y → rowid x ≡ rowid y → x ≡ y
one_row [] x y t h k e = absurd h
one_row (r ∷ rows) x y t (inl p) (inl q) e = p ∙ sym q
one_row (r ∷ rows) x y t (inl p) (inr q) e = absurd (never_below (rowid r) (subst (λ v. value_cmp (rowid r) v ≡ Less) (sym e ∙ ap rowid p) (all_has _ rows y t.0 q)))
one_row (r ∷ rows) x y t (inr p) (inl q) e = absurd (never_below (rowid r) (subst (λ v. value_cmp (rowid r) v ≡ Less) (e ∙ ap rowid q) (all_has _ rows x t.0 p)))
one_row (r ∷ rows) x y t (inr p) (inr q) e = one_row rows x y t.1 p q e

pub stays : (ids : List ℤ) (rows : List SqlRow) (x : SqlRow) → Has rows x → ((id : ℤ) → Has ids id → has_rowid id x ≡ false) → Has (without_all rows ids) x
stays [] rows x h none = h
stays (id ∷ ids) rows x h none = stays ids (without_rowid id rows) x (has_kept (λ r. not (has_rowid id r)) rows x h (ap not (none id (inl refl)))) (λ j m. none j (inr m))

pub is_gone : (ids : List ℤ) (rows : List SqlRow) (x : SqlRow) (id : ℤ) → Has ids id → Has (without_all rows ids) x → has_rowid id x ≡ false
is_gone [] rows x id m h = absurd m
is_gone (j ∷ ids) rows x id (inl e) h = rw e (not-true (has_rowid j x) (has_filtered (λ r. not (has_rowid j r)) rows x (without_all_has ids (without_rowid j rows) x h)).1)
is_gone (j ∷ ids) rows x id (inr m) h = is_gone ids (without_rowid j rows) x id m h

pub table_without : (ids : List ℤ) (rows : List SqlRow) → IsTable rows → IsTable (without_all rows ids)
table_without [] rows t = t
table_without (id ∷ ids) rows t = table_without ids (without_rowid id rows) (ascending-filter _ (λ r. not (has_rowid id r)) rows t)

pub table_put : (news rows : List SqlRow) → IsTable rows → IsTable (put_all rows news)
table_put [] rows t = t
table_put (n ∷ news) rows t = table_put news (put_row n rows) (IsTable-put_row n rows t)

-- the rows that go are those of the key
pub removes : (ids : List ℤ) (rows : List SqlRow) (k : Key) → AreKept rows
    → ((id : ℤ) → Has ids id → (r : SqlRow) × Has rows r × (same_key (key_in r) k ≡ true) × (id ≡ id_in (rowid r)))
    → ((r : SqlRow) → Has rows r → same_key (key_in r) k ≡ true → Has ids (id_in (rowid r)))
    → Removes rows (without_all rows ids) k
removes ids rows k are sound complete = record {
  each = λ x h. (without_all_has ids rows x h, gone x h (without_all_has ids rows x h) (tested (same_key (key_in x) k)));
  kept = λ x h apart. stays ids rows x h (λ id m. other x h apart id m (tested (has_rowid id x)));
  table = table_without ids rows are.table;
}
  where
    gone : (x : SqlRow) → Has (without_all rows ids) x → Has rows x → Tested (same_key (key_in x) k) → same_key (key_in x) k ≡ false
    gone x h was (inl p) = absurd (true≢false (sym (has_own x (are.all x was)) ∙ is_gone ids rows x (id_in (rowid x)) (complete x was p) h))
    gone x h was (inr p) = p

    other : (x : SqlRow) → Has rows x → same_key (key_in x) k ≡ false → (id : ℤ) → Has ids id → Tested (has_rowid id x) → has_rowid id x ≡ false
    other x h apart id m (inl p) =
        let it = sound id m in
        let number : id_in (rowid x) ≡ id_in (rowid it.0) = has_its x id (are.all x h) p ∙ it.3 in
        let rowids : rowid x ≡ rowid it.0 = rowid_is x (are.all x h) ∙ ap Int number ∙ sym (rowid_is it.0 (are.all it.0 it.1)) in
        let same : x ≡ it.0 = one_row rows x it.0 are.table h it.1 rowids in
        absurd (true≢false (sym it.2 ∙ subst (λ y. same_key (key_in y) k ≡ false) same apart))
    other x h apart id m (inr p) = p

-- the rows that come are one row, perhaps written more than once
pub adds : (rows news : List SqlRow) (new : SqlRow) → IsTable rows → are_fresh rows news ≡ true → Has news new → ((x : SqlRow) → Has news x → x ≡ new) → Adds rows (put_all rows news) new
adds rows news new table fresh there only = record {
  each = λ x h. elim (put_all_has news rows x h) [ inl m ↦ inl (only x m) | inr m ↦ inr m ];
  new_one = put_all_adds news rows new fresh there;
  old_ones = λ x h. put_all_keeps news rows x fresh h;
  table = table_put news rows table;
}
