-- Rows that are widened one after another leave the tables in which all of them are.
use Rattle.std.proofs.Common.{◌≡◌, ◌⊎◌, inl, inr, ℕ, zero, suc, ◌+◌, ◌<◌, ◌≤◌, Bool, true, false, cond, nat_eq, nat_lt, List, [], ◌∷◌, ◌++◌, length, take, drop, get_or, slice_get, Some, None, Option, IfSome, OnOk, Result, Ok, Err, refl, sym, ap, ◌∙◌, subst, arith, eq-eqb}
use Rattle.std.specs.Prelude.{is_some}
use Rattle.std.specs.List.{list_all, list_any}
use Rattle.std.proofs.lemmas.Bool.{and_parts, and_from, or_parts, ltb-true, ltb-false, lt-ltb, eqb-true, cases_order, false_from_ne_true}
use Rattle.std.proofs.lemmas.List.{take_more}
use Rattle.hib_base.specs.declared.rows.Cell.{Cell}
use Rattle.hib_base.specs.declared.scripts.ColumnDef.{ColumnDef}
use Rattle.hib_base.specs.declared.scripts.EntityDef.{EntityDef}
use Rattle.hib_base.specs.Keys.{same_key, is_before}
use Rattle.hib_base.specs.Fits.{entity_columns, columns_in, has_default}
use Rattle.hib_base.specs.Start.{is_narrow, widened_row, widened_entry, widened}
use Rattle.hib_base.specs.Tables.{Tables, row_at, with_row, is_first, in_order}
use Rattle.hib_base.proofs.Lists.{all_at, all_weaker}
use Rattle.hib_base.proofs.Tables.{same_key_refl, same_key_eq, Tested, tested, row_at_with_same, row_at_with_other}
use Rattle.hib_outside.specs.Keeps.{is_listed, rows_of}
use Rattle.hib_outside.proofs.Orders.{is_first_trans, rest_in_order}
use Rattle.hib_outside.proofs.Searches.{IsEarlier, earlier}
use Rattle.hib_sqlite_rows.specs.Told.{Told, changed}
use Rattle.hib_keeper_sqlite.specs.Types.{Key, Row}
use Rattle.hib_keeper_sqlite.specs.Widening.{with_wide, with_all_wide, wide_entry, widened_one, entry_below, widened_below, are_there}
use Rattle.hib_keeper_sqlite.proofs.Changed.{changed-twice}

-- ---- no default, no wider row
none_behind : (ds : List ColumnDef) (n : ℕ) → n < length ds → list_any has_default ds ≡ false → list_all has_default (drop n ds) ≡ false
none_behind [] n l h = absurd (omega arith)
none_behind (d ∷ ds) zero l h =
    let both : (has_default d ≡ false) × (list_any has_default ds ≡ false) = or_parts (has_default d) (list_any has_default ds) h in rw both.0 refl
none_behind (d ∷ ds) (suc n) l h =
    let both : (has_default d ≡ false) × (list_any has_default ds ≡ false) = or_parts (has_default d) (list_any has_default ds) h in none_behind ds n (omega arith) both.1

none_narrow : (ds : List ColumnDef) (cs : List Cell) → list_any has_default ds ≡ false → is_narrow ds cs ≡ false
none_narrow ds cs h = by_size (tested (nat_lt (length cs) (length ds)))
  where
    by_size : Tested (nat_lt (length cs) (length ds)) → is_narrow ds cs ≡ false
    by_size (inl p) = rw (p, none_behind ds (length cs) (ltb-true (length cs) (length ds) p) h) refl
    by_size (inr p) = rw p refl

same_row : (ds : List ColumnDef) (r : Row) → is_narrow ds r.cells ≡ false → widened_row ds r ≡ r
same_row ds r h = rw h refl

same_wide : (n : ℕ) (ds : List ColumnDef) (e : Key × Row) → widened_row ds e.1 ≡ e.1 → wide_entry n ds e ≡ e
same_wide n ds e h = by_test (is_listed e.0.entity (n ∷ []))
  where
    by_test : (b : Bool) → cond b (e.0, widened_row ds e.1) e ≡ e
    by_test true = ap (λ (r : Row). (e.0, r)) h
    by_test false = refl

none_widened : (n : ℕ) (ds : List ColumnDef) (t : Tables) → list_any has_default ds ≡ false → widened_one n ds t ≡ t
none_widened n ds [] h = refl
none_widened n ds (e ∷ es) h =
    ap (λ x. x ∷ widened_one n ds es) (same_wide n ds e (same_row ds e.1 (none_narrow ds e.1.cells h))) ∙ ap (λ xs. e ∷ xs) (none_widened n ds es h)

changed-nothing : (f : Tables → Tables) (o : Option Told) → ((t : Tables) → f t ≡ t) → o ≡ changed f o
changed-nothing f None h = refl
changed-nothing f (Some t) h = ap (λ (n : Tables). Some (record t { now = n })) (sym (h t.now))

pub none_changed : (n : ℕ) (ds : List ColumnDef) (o : Option Told) → list_any has_default ds ≡ false → o ≡ changed (widened_one n ds) o
none_changed n ds o h = changed-nothing (widened_one n ds) o (λ t. none_widened n ds t h)

pub same_changed : (ds : List ColumnDef) (e : Key × Row) (o : Option Told) → is_narrow ds e.1.cells ≡ false → o ≡ changed (λ t. with_wide ds t e) o
same_changed ds e o h = changed-nothing (λ t. with_wide ds t e) o (λ t. ap (λ b. cond b (with_row t e.0 (widened_row ds e.1)) t) h)

-- ---- rows that come later leave the first entry
wide_behind : (ds : List ColumnDef) (h : Key × Row) (t : Tables) (x : Key × Row) → is_before h.0 x.0 ≡ true → with_wide ds (h ∷ t) x ≡ h ∷ with_wide ds t x
wide_behind ds h t x b = by_test (is_narrow ds x.1.cells)
  where
    it : IsEarlier h.0 x.0
    it = earlier h.0 x.0 b

    by_test : (c : Bool) → cond c (with_row (h ∷ t) x.0 (widened_row ds x.1)) (h ∷ t) ≡ h ∷ cond c (with_row t x.0 (widened_row ds x.1)) t
    by_test true = rw (it.differs, it.not_after) refl
    by_test false = refl

all_behind : (ds : List ColumnDef) (h : Key × Row) (t es : Tables) → list_all (λ x. is_before h.0 x.0) es ≡ true → with_all_wide ds (h ∷ t) es ≡ h ∷ with_all_wide ds t es
all_behind ds h t [] a = refl
all_behind ds h t (x ∷ es) a =
    let both : (is_before h.0 x.0 ≡ true) × (list_all (λ y. is_before h.0 y.0) es ≡ true) = and_parts (is_before h.0 x.0) (list_all (λ y. is_before h.0 y.0) es) a in
    ap (λ u. with_all_wide ds u es) (wide_behind ds h t x both.0) ∙ all_behind ds h (with_wide ds t x) es both.1

all_after : (k : Key) (t : Tables) → is_first k t ≡ true → in_order t ≡ true → list_all (λ x. is_before k x.0) t ≡ true
all_after k [] f o = refl
all_after k (e ∷ es) f o =
    let p : (is_first e.0 es ≡ true) × (in_order es ≡ true) = rest_in_order e es o in
    and_from (is_before k e.0) (list_all (λ x. is_before k x.0) es) f (all_after k es (is_first_trans k e.0 es f p.0) p.1)

listed_all : (p : Key × Row → Bool) (ns : List ℕ) (t : Tables) → list_all p t ≡ true → list_all p (rows_of ns t) ≡ true
listed_all p ns [] h = refl
listed_all p ns (e ∷ es) h =
    let both : (p e ≡ true) × (list_all p es ≡ true) = and_parts (p e) (list_all p es) h in
    by_test (is_listed e.0.entity ns) both.0 (listed_all p ns es both.1)
  where
    by_test : (b : Bool) → p e ≡ true → list_all p (rows_of ns es) ≡ true → list_all p (cond b (e ∷ rows_of ns es) (rows_of ns es)) ≡ true
    by_test true x y = and_from (p e) (list_all p (rows_of ns es)) x y
    by_test false x y = y

wide_self : (ds : List ColumnDef) (e : Key × Row) (es : Tables) → with_wide ds (e ∷ es) e ≡ (e.0, widened_row ds e.1) ∷ es
wide_self ds e es = by_narrow (tested (is_narrow ds e.1.cells))
  where
    by_narrow : Tested (is_narrow ds e.1.cells) → with_wide ds (e ∷ es) e ≡ (e.0, widened_row ds e.1) ∷ es
    by_narrow (inl p) = ap (λ b. cond b (with_row (e ∷ es) e.0 (widened_row ds e.1)) (e ∷ es)) p ∙ ap (λ b. cond b ((e.0, widened_row ds e.1) ∷ es) (cond (is_before e.0 e.0) ((e.0, widened_row ds e.1) ∷ e ∷ es) (e ∷ with_row es e.0 (widened_row ds e.1)))) (same_key_refl e.0)
    by_narrow (inr p) = ap (λ b. cond b (with_row (e ∷ es) e.0 (widened_row ds e.1)) (e ∷ es)) p ∙ ap (λ (r : Row). (e.0, r) ∷ es) (sym (same_row ds e.1 p))

-- the rows of an entity, one after another
entity_widened : (n : ℕ) (ds : List ColumnDef) (t : Tables) → in_order t ≡ true → with_all_wide ds t (rows_of (n ∷ []) t) ≡ widened_one n ds t
entity_widened n ds [] o = refl
entity_widened n ds (e ∷ es) o =
    let p : (is_first e.0 es ≡ true) × (in_order es ≡ true) = rest_in_order e es o in
    by_test (is_listed e.0.entity (n ∷ [])) (listed_all (λ x. is_before e.0 x.0) (n ∷ []) es (all_after e.0 es p.0 p.1)) (entity_widened n ds es p.1)
  where
    by_test : (b : Bool) → list_all (λ x. is_before e.0 x.0) (rows_of (n ∷ []) es) ≡ true → with_all_wide ds es (rows_of (n ∷ []) es) ≡ widened_one n ds es
        → with_all_wide ds (e ∷ es) (cond b (e ∷ rows_of (n ∷ []) es) (rows_of (n ∷ []) es)) ≡ cond b (e.0, widened_row ds e.1) e ∷ widened_one n ds es
    by_test true a h =
        ap (λ u. with_all_wide ds u (rows_of (n ∷ []) es)) (wide_self ds e es) ∙ all_behind ds (e.0, widened_row ds e.1) es (rows_of (n ∷ []) es) a
        ∙ ap (λ xs. (e.0, widened_row ds e.1) ∷ xs) h
    by_test false a h = all_behind ds e es (rows_of (n ∷ []) es) a ∙ ap (λ xs. e ∷ xs) h

pub entity_changed : (n : ℕ) (ds : List ColumnDef) (old listed new : Option Told) (rows : Tables) → listed ≡ old → IfSome old (λ t. rows ≡ rows_of (n ∷ []) t.now) → IfSome old (λ t. in_order t.now ≡ true)
    → new ≡ changed (λ t. with_all_wide ds t rows) listed → new ≡ changed (widened_one n ds) old
entity_changed n ds None listed new rows same are o h = h ∙ ap (changed (λ t. with_all_wide ds t rows)) same
entity_changed n ds (Some t) listed new rows same are o h =
    h ∙ ap (changed (λ u. with_all_wide ds u rows)) same
    ∙ ap (λ (x : Tables). Some (record t { now = x })) (ap (λ xs. with_all_wide ds t.now xs) are ∙ entity_widened n ds t.now o)

-- ---- rows that are there stay
there_later : (e x : Key × Row) (es : Tables) → is_some (row_at es x.0) ≡ true → is_some (row_at (e ∷ es) x.0) ≡ true
there_later e x es h = by_test (same_key e.0 x.0)
  where
    by_test : (b : Bool) → is_some (cond b (Some e.1) (row_at es x.0)) ≡ true
    by_test true = refl
    by_test false = h

all_there : (t : Tables) → are_there t t ≡ true
all_there [] = refl
all_there (e ∷ es) =
    and_from (is_some (row_at (e ∷ es) e.0)) (list_all (λ x. is_some (row_at (e ∷ es) x.0)) es) (rw (same_key_refl e.0) refl)
    (all_weaker (λ (x : Key × Row). is_some (row_at es x.0)) (λ (x : Key × Row). is_some (row_at (e ∷ es) x.0)) es (λ x h. there_later e x es h) (all_there es))

there_listed : (ns : List ℕ) (t : Tables) → are_there (rows_of ns t) t ≡ true
there_listed ns t = listed_all (λ e. is_some (row_at t e.0)) ns t (all_there t)

pub listed_there : (ns : List ℕ) (old listed : Option Told) (rows : Tables) → listed ≡ old → IfSome old (λ t. rows ≡ rows_of ns t.now) → IfSome listed (λ t. are_there rows t.now ≡ true)
listed_there ns old None rows same are = tt
listed_there ns None (Some t) rows same are = absurd (cc)
listed_there ns (Some u) (Some t) rows same are =
    let is : t ≡ u = cc in
    subst (λ (x : Told). are_there rows x.now ≡ true) (sym is) (subst (λ (es : Tables). are_there es u.now ≡ true) (sym are) (there_listed ns u.now))

some_there : (ds : List ColumnDef) (t : Tables) (e : Key × Row) (k : Key) → is_some (row_at t k) ≡ true → is_some (row_at (with_wide ds t e) k) ≡ true
some_there ds t e k h = by_test (is_narrow ds e.1.cells) (tested (same_key e.0 k))
  where
    by_test : (b : Bool) → Tested (same_key e.0 k) → is_some (row_at (cond b (with_row t e.0 (widened_row ds e.1)) t) k) ≡ true
    by_test false s = h
    by_test true (inl s) = subst (λ j. is_some (row_at (with_row t e.0 (widened_row ds e.1)) j) ≡ true) (same_key_eq e.0 k s) (ap is_some (row_at_with_same t e.0 (widened_row ds e.1)))
    by_test true (inr s) = ap is_some (row_at_with_other t e.0 k (widened_row ds e.1) s) ∙ h

pub next_there : (ds : List ColumnDef) (e : Key × Row) (rows : Tables) (old new : Option Told) → new ≡ changed (λ t. with_wide ds t e) old → IfSome old (λ t. are_there rows t.now ≡ true)
    → IfSome new (λ t. are_there rows t.now ≡ true)
next_there ds e rows old None is h = tt
next_there ds e rows None (Some u) is h = absurd (cc)
next_there ds e rows (Some t) (Some u) is h =
    let same : u ≡ record t { now = with_wide ds t.now e } = cc in
    subst (λ (x : Told). are_there rows x.now ≡ true) (sym same)
    (all_weaker (λ (x : Key × Row). is_some (row_at t.now x.0)) (λ (x : Key × Row). is_some (row_at (with_wide ds t.now e) x.0)) rows (λ x w. some_there ds t.now e x.0 w) h)

pub one_there : (rows : Tables) (n : ℕ) (e : Key × Row) (o : Option Told) → slice_get rows n ≡ Some e → IfSome o (λ t. are_there rows t.now ≡ true) → IfSome o (λ t. is_some (row_at t.now e.0) ≡ true)
one_there rows n e None is h = tt
one_there rows n e (Some t) is h = all_at (λ (x : Key × Row). is_some (row_at t.now x.0)) rows n e h is

-- ---- one row more
all_push : (ds : List ColumnDef) (t es : Tables) (e : Key × Row) → with_all_wide ds t (es ++ e ∷ []) ≡ with_wide ds (with_all_wide ds t es) e
all_push ds t [] e = refl
all_push ds t (x ∷ es) e = all_push ds (with_wide ds t x) es e

pub next_wide : (ds : List ColumnDef) (o loop new : Option Told) (es : Tables) (n : ℕ) (e : Key × Row) → n < length es → e ≡ get_or es n e → loop ≡ changed (λ t. with_all_wide ds t (take n es)) o
    → new ≡ changed (λ t. with_wide ds t e) loop → new ≡ changed (λ t. with_all_wide ds t (take (n + 1) es)) o
next_wide ds o loop new es n e low is so_far more =
    let past : take (n + 1) es ≡ take n es ++ e ∷ [] = take_more es n e low ∙ ap (λ d. take n es ++ d ∷ []) (sym is) in
    let grown : (t : Tables) → with_wide ds (with_all_wide ds t (take n es)) e ≡ with_all_wide ds t (take (n + 1) es) = λ t. sym (ap (with_all_wide ds t) past ∙ all_push ds t (take n es) e) in
    more ∙ ap (changed (λ t. with_wide ds t e)) so_far ∙ changed-twice (λ t. with_all_wide ds t (take n es)) (λ t. with_wide ds t e) o ∙ (λ i. changed (λ t. grown t i) o)

-- ---- one entity more
not_listed : (k n : ℕ) → (k ≡ n → ⊥) → is_listed k (n ∷ []) ≡ false
not_listed k n d = rw (false_from_ne_true (nat_eq n k) (λ e. d (sym (eqb-true n k e)))) refl

is_one : (k n : ℕ) → k ≡ n → is_listed k (n ∷ []) ≡ true
is_one k n e = rw (eq-eqb n k (sym e)) refl

not_below : (k n : ℕ) → n ≤ k → nat_lt k n ≡ false
not_below k n l = false_from_ne_true (nat_lt k n) (λ e. let m : k < n = ltb-true k n e in omega (arith, l, m))

entry_next : (n : ℕ) (m : List EntityDef) (d : EntityDef) (e : Key × Row) → slice_get m n ≡ Some d → wide_entry n d.columns (entry_below n m e) ≡ entry_below (n + 1) m e
entry_next n m d e is = at (cases_order e.0.entity n)
  where
    at : (e.0.entity ≡ n) ⊎ ((e.0.entity < n) ⊎ (n < e.0.entity)) → wide_entry n d.columns (entry_below n m e) ≡ entry_below (n + 1) m e
    at (inl s) =
        let here : entity_columns m e.0.entity ≡ d.columns = ap (λ k. entity_columns m k) s ∙ ap columns_in is in
        let l : nat_lt e.0.entity (n + 1) ≡ true = lt-ltb e.0.entity (n + 1) (omega (arith, s)) in
        let g : nat_lt e.0.entity n ≡ false = not_below e.0.entity n (omega (arith, s)) in
        ap (λ b. wide_entry n d.columns (cond b (widened_entry m e) e)) g ∙ ap (λ b. cond b (e.0, widened_row d.columns e.1) e) (is_one e.0.entity n s)
        ∙ ap (λ ds. (e.0, widened_row ds e.1)) (sym here) ∙ ap (λ b. cond b (widened_entry m e) e) (sym l)
    at (inr (inl s)) =
        let l : nat_lt e.0.entity (n + 1) ≡ true = lt-ltb e.0.entity (n + 1) (omega (arith, s)) in
        let g : nat_lt e.0.entity n ≡ true = lt-ltb e.0.entity n s in
        let other : is_listed e.0.entity (n ∷ []) ≡ false = not_listed e.0.entity n (λ q. omega (arith, s, q)) in
        ap (λ b. wide_entry n d.columns (cond b (widened_entry m e) e)) g ∙ ap (λ b. cond b (e.0, widened_row d.columns (widened_entry m e).1) (widened_entry m e)) other
        ∙ ap (λ b. cond b (widened_entry m e) e) (sym l)
    at (inr (inr s)) =
        let l : nat_lt e.0.entity (n + 1) ≡ false = not_below e.0.entity (n + 1) (omega (arith, s)) in
        let g : nat_lt e.0.entity n ≡ false = not_below e.0.entity n (omega (arith, s)) in
        let other : is_listed e.0.entity (n ∷ []) ≡ false = not_listed e.0.entity n (λ q. omega (arith, s, q)) in
        ap (λ b. wide_entry n d.columns (cond b (widened_entry m e) e)) g ∙ ap (λ b. cond b (e.0, widened_row d.columns e.1) e) other
        ∙ ap (λ b. cond b (widened_entry m e) e) (sym l)

below_next : (n : ℕ) (m : List EntityDef) (d : EntityDef) (t : Tables) → slice_get m n ≡ Some d → widened_one n d.columns (widened_below n m t) ≡ widened_below (n + 1) m t
below_next n m d [] is = refl
below_next n m d (e ∷ es) is = ap (λ x. x ∷ widened_one n d.columns (widened_below n m es)) (entry_next n m d e is) ∙ ap (λ xs. entry_below (n + 1) m e ∷ xs) (below_next n m d es is)

pub next_entity : (n : ℕ) (m : List EntityDef) (d : EntityDef) (o loop new : Option Told) → slice_get m n ≡ Some d → loop ≡ changed (widened_below n m) o
    → new ≡ changed (widened_one n d.columns) loop → new ≡ changed (widened_below (n + 1) m) o
next_entity n m d o loop new is so_far more =
    let grown : (t : Tables) → widened_one n d.columns (widened_below n m t) ≡ widened_below (n + 1) m t = λ t. below_next n m d t is in
    more ∙ ap (changed (widened_one n d.columns)) so_far ∙ changed-twice (widened_below n m) (widened_one n d.columns) o ∙ (λ i. changed (λ t. grown t i) o)

none_below : (m : List EntityDef) (t : Tables) → widened_below 0 m t ≡ t
none_below m [] = refl
none_below m (e ∷ es) = ap (λ b. cond b (widened_entry m e) e ∷ widened_below 0 m es) (not_below e.0.entity 0 (omega arith)) ∙ ap (λ xs. e ∷ xs) (none_below m es)

pub first_entity : (m : List EntityDef) (o : Option Told) → o ≡ changed (widened_below 0 m) o
first_entity m o = changed-nothing (widened_below 0 m) o (λ t. none_below m t)

none_at : (m : List EntityDef) (k : ℕ) → length m ≤ k → slice_get m k ≡ None
none_at [] k h = refl
none_at (d ∷ m) zero h = absurd (omega (arith, h))
none_at (d ∷ m) (suc k) h = none_at m k (omega (arith, h))

entry_whole : (n : ℕ) (m : List EntityDef) (e : Key × Row) → length m ≤ n → entry_below n m e ≡ widened_entry m e
entry_whole n m e h = at (tested (nat_lt e.0.entity n))
  where
    at : Tested (nat_lt e.0.entity n) → entry_below n m e ≡ widened_entry m e
    at (inl p) = ap (λ b. cond b (widened_entry m e) e) p
    at (inr p) =
        let far : length m ≤ e.0.entity = omega (arith, h, ltb-false e.0.entity n p) in
        let none : entity_columns m e.0.entity ≡ [] = ap columns_in (none_at m e.0.entity far) in
        let narrow : is_narrow [] e.1.cells ≡ false = none_narrow [] e.1.cells refl in
        ap (λ b. cond b (widened_entry m e) e) p ∙ ap (λ (r : Row). (e.0, r)) (sym (same_row [] e.1 narrow)) ∙ ap (λ ds. (e.0, widened_row ds e.1)) (sym none)

whole : (n : ℕ) (m : List EntityDef) (t : Tables) → length m ≤ n → widened_below n m t ≡ widened m t
whole n m [] h = refl
whole n m (e ∷ es) h = ap (λ x. x ∷ widened_below n m es) (entry_whole n m e h) ∙ ap (λ xs. widened_entry m e ∷ xs) (whole n m es h)

pub all_entities : (n : ℕ) (m : List EntityDef) (o loop : Option Told) → length m ≤ n → loop ≡ changed (widened_below n m) o → loop ≡ changed (widened m) o
all_entities n m o loop h is = is ∙ (λ i. changed (λ t. whole n m t h i) o)

-- ---- answers
pub on_ok : {T E P Q : Type 0} (r : Result T E) → (P → Q) → OnOk r P → OnOk r Q
on_ok (Ok x) f h = f h
on_ok (Err e) f h = tt
