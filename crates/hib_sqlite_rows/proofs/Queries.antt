-- What the two queries answer.
use Rattle.std.proofs.Common.{◌≡◌, ◌⊎◌, inl, inr, ◌<◌, ℕ, pos, Bool, true, false, ◌&&◌, ◌==◌, List, [], ◌∷◌, map, filter, Some, None, Option, refl, sym, ◌∙◌, subst, subst₂, ap, arith, Less, int_cmp}
use Rattle.std.specs.List.{flat_map}
use Rattle.std.specs.List.Sorted.{IsPermutation, IsSorted}
use Rattle.std.specs.Cmp.{int_cmp_is}
use Rattle.std.proofs.lemmas.List.Sorted.{IsPermutation-map, IsPermutation-refl, IsPermutation-trans, IsPermutation-cons, IsPermutation-middle, IsPermutation-sym, length_permutation}
use Rattle.std.proofs.lemmas.Bool.{eqb-true}
use Rattle.std.proofs.lemmas.Bool.Decides.{nat_tests}
use Rattle.std.proofs.lemmas.Int.{ints}
use Rattle.sqlite_value.specs.declared.value.Value.TheVariants.{Null, Int}
use Rattle.sqlite_value.specs.Order.{Row as SqlRow, column, value_cmp}
use Rattle.sqlite_value.specs.Keys.{ascending}
use Rattle.sqlite_value.specs.declared.keys.Key.{Key as SqlKey}
use Rattle.sqlite_value.proofs.OrderLemmas.{value_cmp-Int, then-Equal}
use Rattle.sqlite_sql.specs.Ops.{binary, is_true}
use Rattle.sqlite_sql.specs.declared.ops.BinaryOp.TheVariants.{Compare}
use Rattle.sqlite_sql.specs.declared.ops.CompareOp.TheVariants.{Eq}
use Rattle.sqlite.specs.Collation.TheVariants.{Binary}
use Rattle.sqlite.specs.Term.{Term, Env, col, holds}
use Rattle.sqlite_sql.proofs.QueryLemmas.{output_cmp_total}
use Rattle.sqlite.specs.Query.{Query, end, IsAnswer, Output, output, output_cmp, matches_as}
use Rattle.std.specs.List.{list_all}
use Rattle.sqlite.specs.Program.{overlay}
use Rattle.sqlite_rules.specs.Lists.{Has}
use Rattle.sqlite_rules.proofs.ListLemmas.{all_has, all_from, has_filtered}
use Rattle.sqlite_trees.specs.Tree.{Trees, rowid, IsTable, IsAscending}
use Rattle.sqlite_trees.proofs.ListLemmas.{IsPermutation-filter, ascending-map}
use Rattle.sqlite_keyed.proofs.SortLemmas.{sorted_unique}
use Rattle.sqlite.specs.State.{State, Shown}
use Rattle.sqlite.proofs.Callers.{reads_as, one_permutation}
use Rattle.hib_sqlite_rows.specs.Types.{Key, Row}
use Rattle.hib_base.specs.Keys.{same_key, is_before}
use Rattle.hib_base.specs.Tables.{Tables, row_at, with_row, is_first, in_order}
use Rattle.hib_sqlite_rows.specs.Told.{rows_in}
use Rattle.hib_sqlite_rows.specs.Stored.{kept_schema, key_in, row_in, entry_in, tables_of, IsKept, AreKept}
use Rattle.hib_sqlite_rows.specs.Shown.{shown, shown_found, shown_entry}
use Rattle.hib_base.proofs.Tables.{Tested, tested, same_key_eq}
use Rattle.hib_outside.proofs.Orders.{precedes, is_first_trans, rest_in_order, row_at_before}
use Rattle.hib_sqlite_rows.specs.Ordered.{tables_in_order}
use Rattle.hib_sqlite_rows.proofs.Told.{told_none}
use Rattle.hib_sqlite_rows.proofs.Members.{never_below}
use Rattle.hib_sqlite_rows.specs.Texts.{read_text, list_text}
use Rattle.hib_sqlite_rows.proofs.Texts.{query_of, has_entity, has_id, read_query, list_query, read_is, read_plain, read_unlisted, list_is, list_plain, list_unlisted}

-- ---- the tests

less_ints : (m n : ℕ) → m < n → int_cmp (pos m) (pos n) ≡ Less
less_ints m n h = sym (int_cmp_is (pos m) (pos n) Less (omega (arith, ints)))

pub equal_ints : (m n : ℕ) → is_true (binary (Compare Eq Binary) (Int (pos m)) (Int (pos n))) ≡ (m == n)
unfolding binary
equal_ints m n = rw (value_cmp-Int (pos m) (pos n)) (grind (arith, nat_tests))

-- a row that is kept passes the test for its entity, and for its key
pub tests_entity : (r : SqlRow) (n : ℕ) (more : SqlRow) → IsKept r → list_all (holds ((Int (pos n) ∷ more) ∷ r ∷ [])) (has_entity ∷ []) ≡ ((key_in r).entity == n)
tests_entity r n more is =
    let e : column r 1 ≡ Int (pos (key_in r).entity) = ap (λ x. column x 1) is.shape in
    subst (λ v. (is_true (binary (Compare Eq Binary) v (Int (pos n))) && true) ≡ ((key_in r).entity == n)) (sym e) (rw (equal_ints (key_in r).entity n) (tail ((key_in r).entity == n)))
  where
    tail : (b : Bool) → (b && true) ≡ b
    tail true = refl
    tail false = refl

pub tests_key : (r : SqlRow) (k : Key) (more : SqlRow) → IsKept r → list_all (holds ((Int (pos k.entity) ∷ Int (pos k.id) ∷ more) ∷ r ∷ [])) (has_entity ∷ has_id ∷ []) ≡ same_key (key_in r) k
tests_key r k more is =
    let e : column r 1 ≡ Int (pos (key_in r).entity) = ap (λ x. column x 1) is.shape in
    let f : column r 2 ≡ Int (pos (key_in r).id) = ap (λ x. column x 2) is.shape in
    subst₂ (λ v w. (is_true (binary (Compare Eq Binary) v (Int (pos k.entity))) && (is_true (binary (Compare Eq Binary) w (Int (pos k.id))) && true)) ≡ same_key (key_in r) k) (sym e) (sym f)
    (rw (equal_ints (key_in r).entity k.entity, equal_ints (key_in r).id k.id) (tail ((key_in r).entity == k.entity) ((key_in r).id == k.id)))
  where
    tail : (a b : Bool) → (a && (b && true)) ≡ (a && b)
    tail true true = refl
    tail true false = refl
    tail false b = refl

-- ---- what is read of the rows

abbrev pub matched : SqlRow → List Term → List SqlRow → List Env
matched params fs rows = flat_map (λ r. matches_as Null (λ t. []) fs end (params ∷ r ∷ [])) rows

abbrev pub ordered_query : List Term → List Term → List (Term × SqlKey) → Query
ordered_query fs project order = record (query_of fs project) { order = order }

pub record Answered (q : Query) (fs : List Term) (rows : List SqlRow) (params : SqlRow) (answer : List SqlRow) : Type 0 where
  pub ordered : List Output
  pub same : IsPermutation (map (output q) (matched params fs rows)) ordered
  pub sorted : IsSorted (output_cmp q) ordered
  pub shown : answer ≡ map (λ (o : Output). o.1) ordered

pub answered : (fs project : List Term) (order : List (Term × SqlKey)) (db : Trees) (params : SqlRow) (rows : List SqlRow)
    → IsAnswer (ordered_query fs project order) (overlay db []) params rows → Answered (ordered_query fs project order) fs (db 0) params rows
answered fs project order db params rows a =
    let q = ordered_query fs project order in
    let kept : a.kept ≡ map (output q) (matched params fs (db 0)) = a.distinct ∙ ap (map (output q)) a.grouped in
    record { ordered = a.ordered; same = subst (λ k. IsPermutation k a.ordered) kept a.same; sorted = a.sorted; shown = a.shown }

outputs : (q : Query) (fs : List Term) (params : SqlRow) (p : Key × Row → Bool) (g : Key × Row → Output)
    → ((r : SqlRow) → IsKept r → list_all (holds (params ∷ r ∷ [])) fs ≡ p (entry_in r)) → ((r : SqlRow) → IsKept r → output q (params ∷ r ∷ []) ≡ g (entry_in r))
    → (rows : List SqlRow) → ((r : SqlRow) → Has rows r → IsKept r) → map (output q) (matched params fs rows) ≡ map g (filter p (map entry_in rows))
outputs q fs params p g test show [] all = refl
outputs q fs params p g test show (r ∷ rows) all = by (p (entry_in r)) refl (outputs q fs params p g test show rows (λ s h. all s (inr h)))
  where
    by : (b : Bool) → p (entry_in r) ≡ b → map (output q) (matched params fs rows) ≡ map g (filter p (map entry_in rows))
        → map (output q) (matched params fs (r ∷ rows)) ≡ map g (filter p (map entry_in (r ∷ rows)))
    by true e rest = rw (test r (all r (inl refl)), e, show r (all r (inl refl)), rest)
    by false e rest = rw (test r (all r (inl refl)), e) rest

-- ---- the rows and the tables have the same entries

placed : (t : Tables) (k : Key) (r : Row) → row_at t k ≡ None → IsPermutation ((k, r) ∷ t) (with_row t k r)
placed [] k r none = IsPermutation-refl _
placed (e ∷ es) k r none = at (tested (same_key e.0 k)) (tested (is_before k e.0)) (placed es k r)
  where
    at : Tested (same_key e.0 k) → Tested (is_before k e.0) → (row_at es k ≡ None → IsPermutation ((k, r) ∷ es) (with_row es k r)) → IsPermutation ((k, r) ∷ e ∷ es) (with_row (e ∷ es) k r)
    at (inl p) b later = absurd (let q = rw p at none in cc)
    at (inr p) (inl b) later = rw (p, b) (IsPermutation-refl _)
    at (inr p) (inr b) later =
        let here : row_at es k ≡ None = rw p at none in
        rw (p, b) (IsPermutation-trans _ _ _ (IsPermutation-sym _ _ (IsPermutation-middle (e ∷ []) (k, r) es)) (IsPermutation-cons e _ _ (later here)))

permuted : (rows : List SqlRow) → IsTable rows → ((r s : SqlRow) → Has rows r → Has rows s → key_in r ≡ key_in s → r ≡ s) → IsPermutation (map entry_in rows) (tables_of rows)
permuted [] table one = IsPermutation-refl _
permuted (r ∷ rows) table one =
    let later : IsPermutation (map entry_in rows) (tables_of rows) = permuted rows table.1 (λ s t h k. one s t (inr h) (inr k)) in
    let none : row_at (tables_of rows) (key_in r) ≡ None = told_none rows (key_in r) (λ s h. other s h (tested (same_key (key_in s) (key_in r)))) in
    IsPermutation-trans _ _ _ (IsPermutation-cons (entry_in r) _ _ later) (placed (tables_of rows) (key_in r) (row_in r) none)
  where
    other : (s : SqlRow) → Has rows s → Tested (same_key (key_in s) (key_in r)) → same_key (key_in s) (key_in r) ≡ false
    other s h (inl p) =
        let same : s ≡ r = one s r (inr h) (inl refl) (same_key_eq (key_in s) (key_in r) p) in
        absurd (never_below (rowid r) (subst (λ x. value_cmp (rowid r) (rowid x) ≡ Less) same (all_has _ rows s table.0 h)))
    other s h (inr p) = p

-- the answer is ordered as the tables are
pub reads_told : (q : Query) (fs : List Term) (rows : List SqlRow) (params : SqlRow) (answer : List SqlRow) (p : Key × Row → Bool) (g : Key × Row → Output)
    → ((r : SqlRow) → IsKept r → list_all (holds (params ∷ r ∷ [])) fs ≡ p (entry_in r)) → ((r : SqlRow) → IsKept r → output q (params ∷ r ∷ []) ≡ g (entry_in r))
    → AreKept rows → (a : Answered q fs rows params answer) → IsPermutation (map g (filter p (tables_of rows))) a.ordered
reads_told q fs rows params answer p g test show are a =
    let moved : IsPermutation (map g (filter p (map entry_in rows))) (map g (filter p (tables_of rows))) =
    IsPermutation-map g _ _ (IsPermutation-filter p _ _ (permuted rows are.table are.keys)) in
    IsPermutation-trans _ _ _ (IsPermutation-sym _ _ moved) (subst (λ k. IsPermutation k a.ordered) (outputs q fs params p g test show rows are.all) a.same)

-- ---- by key

listed : Key → Option Row → Tables
listed k None = []
listed k (Some r) = (k, r) ∷ []

one_at : (t : Tables) (k : Key) → in_order t ≡ true → filter (λ e. same_key e.0 k) t ≡ listed k (row_at t k)
unfolding listed
one_at [] k o = refl
one_at (e ∷ es) k o = at (tested (same_key e.0 k)) (one_at es k (rest_in_order e es o).1)
  where
    at : Tested (same_key e.0 k) → filter (λ e. same_key e.0 k) es ≡ listed k (row_at es k) → filter (λ e. same_key e.0 k) (e ∷ es) ≡ listed k (row_at (e ∷ es) k)
    at (inl p) rest =
        let here : e.0 ≡ k = same_key_eq e.0 k p in
        let none : row_at es k ≡ None = row_at_before es k (rest_in_order e es o).1 (subst (λ j. is_first j es ≡ true) here (rest_in_order e es o).0) in
        let empty : filter (λ e. same_key e.0 k) es ≡ [] = rest ∙ ap (listed k) none in
        rw (p, empty) (ap (λ j. (j, e.1) ∷ []) here)
    at (inr p) rest = rw p rest

no_permutation : {X : Type 0} (ys : List X) → IsPermutation [] ys → ys ≡ []
no_permutation [] h = refl
no_permutation (y ∷ ys) h = absurd (omega (arith, length_permutation [] (y ∷ ys) h))

pub reads_key : (old new : State) (k : Key) (rows : List SqlRow) → old.now.schema ≡ kept_schema → AreKept (old.now.trees 0) → Shown read_text (Int (pos k.entity) ∷ Int (pos k.id) ∷ []) old new rows
    → rows ≡ shown_found (row_at (tables_of (old.now.trees 0)) k)
unfolding listed
reads_key old new k rows has are h =
    let params : SqlRow = Int (pos k.entity) ∷ Int (pos k.id) ∷ [] in
    let got = (reads_as read_text params old new kept_schema has _ read_is read_plain read_unlisted rows h).answer in
    let a = answered (has_entity ∷ has_id ∷ []) (col 1 3 ∷ col 1 4 ∷ []) [] old.now.trees params rows (got Null) in
    let g : Key × Row → Output = λ e. ([], shown e.1) in
    let moved = reads_told read_query (has_entity ∷ has_id ∷ []) (old.now.trees 0) params rows (λ e. same_key e.0 k) g (λ r is. tests_key r k [] is)
    (λ r is. ap (λ (x : SqlRow). ([], column x 3 ∷ column x 4 ∷ [])) is.shape) are a in
    a.shown ∙ only (row_at (tables_of (old.now.trees 0)) k) a.ordered (subst (λ t. IsPermutation (map g t) a.ordered) (one_at (tables_of (old.now.trees 0)) k (tables_in_order (old.now.trees 0))) moved)
  where
    only : (o : Option Row) (ordered : List Output) → IsPermutation (map (λ e. ([], shown e.1)) (listed k o)) ordered → map (λ (o : Output). o.1) ordered ≡ shown_found o
    only None ordered h = ap (map (λ (o : Output). o.1)) (no_permutation ordered h)
    only (Some r) ordered h = ap (map (λ (o : Output). o.1)) (one_permutation ([], shown r) ordered h)

-- ---- by entity, in order of numbers

pub later_before : (k : Key) (es : Tables) → is_first k es ≡ true → in_order es ≡ true → (x : Key × Row) → Has es x → is_before k x.0 ≡ true
later_before k [] f o x h = absurd h
later_before k (e ∷ es) f o x (inl same) = subst (λ (y : Key × Row). is_before k y.0 ≡ true) (sym same) f
later_before k (e ∷ es) f o x (inr h) = later_before k es (is_first_trans k e.0 es f (rest_in_order e es o).0) (rest_in_order e es o).1 x h

abbrev pub sorted_output : Key × Row → Output
sorted_output e = (Int (pos e.0.id) ∷ [], shown_entry e)

rises : (n : ℕ) (t : Tables) → in_order t ≡ true → IsAscending (λ (a b : Key × Row). output_cmp list_query (sorted_output a) (sorted_output b) ≡ Less) (rows_in n t)
rises n [] o = tt
rises n (e ∷ es) o = at (tested (e.0.entity == n)) (rises n es (rest_in_order e es o).1)
  where
    lower : (x : Key × Row) → (e.0.entity == n) ≡ true → (x.0.entity == n) ≡ true → (e.0.entity < x.0.entity) ⊎ ((e.0.entity ≡ x.0.entity) × (e.0.id < x.0.id)) → e.0.id < x.0.id
    lower x p q (inl b) = absurd (let u = eqb-true e.0.entity n p in let v = eqb-true x.0.entity n q in omega arith)
    lower x p q (inr b) = b.1

    below : (x : Key × Row) → e.0.id < x.0.id → output_cmp list_query (sorted_output e) (sorted_output x) ≡ Less
    below x h = then-Equal (value_cmp (Int (pos e.0.id)) (Int (pos x.0.id))) ∙ value_cmp-Int (pos e.0.id) (pos x.0.id) ∙ less_ints e.0.id x.0.id h

    each : (e.0.entity == n) ≡ true → (x : Key × Row) → Has (rows_in n es) x → output_cmp list_query (sorted_output e) (sorted_output x) ≡ Less
    each p x h =
        let it = has_filtered (λ (y : Key × Row). y.0.entity == n) es x h in
        below x (lower x p it.1 (precedes e.0 x.0 (later_before e.0 es (rest_in_order e es o).0 (rest_in_order e es o).1 x it.0)).by)

    at : Tested (e.0.entity == n) → IsAscending (λ (a b : Key × Row). output_cmp list_query (sorted_output a) (sorted_output b) ≡ Less) (rows_in n es)
        → IsAscending (λ (a b : Key × Row). output_cmp list_query (sorted_output a) (sorted_output b) ≡ Less) (rows_in n (e ∷ es))
    at (inl p) rest = rw p (all_from _ (rows_in n es) (each p), rest)
    at (inr p) rest = rw p rest

map-map : {A B C : Type 0} (g : B → C) (f : A → B) (xs : List A) → map g (map f xs) ≡ map (λ x. g (f x)) xs
map-map g f [] = refl
map-map g f (x ∷ xs) = ap (λ ys. g (f x) ∷ ys) (map-map g f xs)

pub reads_entity : (old new : State) (n : ℕ) (rows : List SqlRow) → old.now.schema ≡ kept_schema → AreKept (old.now.trees 0) → Shown list_text (Int (pos n) ∷ []) old new rows
    → rows ≡ map shown_entry (rows_in n (tables_of (old.now.trees 0)))
reads_entity old new n rows has are h =
    let params : SqlRow = Int (pos n) ∷ [] in
    let t = tables_of (old.now.trees 0) in
    let got = (reads_as list_text params old new kept_schema has _ list_is list_plain list_unlisted rows h).answer in
    let a = answered (has_entity ∷ []) (col 1 2 ∷ col 1 3 ∷ col 1 4 ∷ []) ((col 1 2, ascending Binary) ∷ []) old.now.trees params rows (got Null) in
    let moved = reads_told list_query (has_entity ∷ []) (old.now.trees 0) params rows (λ e. e.0.entity == n) sorted_output (λ r is. tests_entity r n [] is)
    (λ r is. ap (λ (x : SqlRow). (column x 2 ∷ [], column x 2 ∷ column x 3 ∷ column x 4 ∷ [])) is.shape) are a in
    let up = ascending-map _ sorted_output (rows_in n t) (rises n t (tables_in_order (old.now.trees 0))) in
    let exact : a.ordered ≡ map sorted_output (rows_in n t) = sorted_unique (output_cmp list_query) (output_cmp_total list_query) (map sorted_output (rows_in n t)) a.ordered up moved a.sorted in
    a.shown ∙ ap (map (λ (o : Output). o.1)) exact ∙ map-map (λ (o : Output). o.1) sorted_output (rows_in n t)
