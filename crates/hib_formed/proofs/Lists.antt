-- What queries give and what is kept of them is well formed; and so are stamps.
use Rattle.std.proofs.Common.{◌≡◌, ◌⊎◌, inl, inr, ℕ, ◌+◌, ◌<◌, ◌≤◌, ◌^◌, Bool, true, false, cond, not, ◌&&◌, ◌==◌, List, [], ◌∷◌, length, take, drop, nat_lt, nat_le, slice_get, Some, None, Option, IfSome, refl, sym, subst, arith}
use Rattle.std.specs.Prelude.{pos, is_some, unwrap_or}
use Rattle.std.specs.Option.{option_map_or}
use Rattle.std.proofs.lemmas.Bool.{and_parts, and_from, lt-ltb, ltb-true, leb-true, eqb-true}
use Rattle.std.proofs.ByRecursion.{All-take, All-drop, All-weaker}
use Rattle.std.specs.List.{AllByRecursion, filter, find, range_with_len}
use Rattle.hib_base.specs.Fits.{is_identifier}
use Rattle.hib_base.specs.Tables.{Tables, is_first, in_order}
use Rattle.hib_base.proofs.Tables.{Tested, tested}
use Rattle.hib_outside.proofs.Orders.{Precedes, precedes, is_first_trans, rest_in_order}
use Rattle.hib_journal.specs.Types.{Key, Row, Cell, Sort, Select, Query, Checked, Script, Act, Reply}
use Rattle.hib_journal.specs.Sessions.{Journal}
use Rattle.hib_journal.specs.Query.{comes_before, placed, sorted, listed, selected, gives, reads, holds, tables}
use Rattle.hib_journal.specs.Stamps.{names, stamp_after, stamp, check_one, check}
use Rattle.hib_journal.specs.Results.{Result, kept_after, last_kept, others, result, stays, dropped}
use Rattle.hib_journal.specs.Next.{tables_of}
use Rattle.hib_entry_fields.specs.Known.{is_entity, is_query, is_tick, is_version, is_cell, are_cells, is_row}
use Rattle.hib_entry_texts.specs.WellFormed.{is_act, is_check, is_looked, is_dropped_query}
use Rattle.hib_formed.proofs.Each.{each_filter, each_find, each_at, each_test, test_map, range_below}
use Rattle.hib_formed.proofs.Goods.{AllGood, early_tick}
use Rattle.hib_formed.proofs.Rows.{IsPlaced, AreRows}

-- ---- the rows of an entity

abbrev pub IsWhole : Key × Row → Type 0
IsWhole x = (is_identifier x.0.id ≡ true) × (is_row x.1 ≡ true)

-- those of entity n
abbrev IsOf : ℕ → Key × Row → Type 0
IsOf n x = (x.0.entity == n) ≡ true → IsWhole x

of_entity : (script : Script) (n : ℕ) (t : Tables) → is_entity script n ≡ true → AllByRecursion (IsPlaced script) t → AllByRecursion (IsOf n) t
of_entity script n t d h = All-weaker (IsPlaced script) (IsOf n) (λ x f e. f (subst (λ m. is_entity script m ≡ true) (sym (eqb-true x.0.entity n e)) d)) t h

module _ (n : ℕ) (f : Key × Row → Bool) where
  abbrev pub chosen : Key × Row → Bool
  chosen x = (x.0.entity == n) && f x

  pub whole_chosen : (t : Tables) → AllByRecursion (IsOf n) t → AllByRecursion IsWhole (filter chosen t)
  whole_chosen [] h = tt
  whole_chosen (e ∷ es) h = by (tested (chosen e)) (whole_chosen es h.1)
    where
      by : Tested (chosen e) → AllByRecursion IsWhole (filter chosen es) → AllByRecursion IsWhole (filter chosen (e ∷ es))
      by (inl p) i = rw p (h.0 (and_parts (e.0.entity == n) (f e) p).0, i)
      by (inr p) i = rw p i

  id_high : (x : Key × Row) → IsWhole x → x.0.id < 9223372036854775808
  id_high x w = ltb-true x.0.id 9223372036854775808 (and_parts (nat_le 1 x.0.id) (nat_lt x.0.id 9223372036854775808) w.0).1

  id_low : (x : Key × Row) → IsWhole x → 1 ≤ x.0.id
  id_low x w = leb-true 1 x.0.id (and_parts (nat_le 1 x.0.id) (nat_lt x.0.id 9223372036854775808) w.0).0

  next_id : (x : Key) (e : Key × Row) → Precedes x e.0 → x.entity ≡ n → e.0.entity ≡ n → x.id < e.0.id
  next_id x e p a b = by p.by
    where
      by : (x.entity < e.0.entity) ⊎ ((x.entity ≡ e.0.entity) × (x.id < e.0.id)) → x.id < e.0.id
      by (inl l) = absurd (omega arith)
      by (inr l) = l.1

  -- rows that come after a key of the entity, in order: there are no more of them than identifiers above its own
  few_after : (x : Key) (t : Tables) → x.entity ≡ n → x.id < 9223372036854775808 → is_first x t ≡ true → in_order t ≡ true → AllByRecursion (IsOf n) t →
      length (filter chosen t) + x.id < 9223372036854775808
  few_after x [] a b c o h = omega arith
  few_after x (e ∷ es) a b c o h =
      by_entity (tested (e.0.entity == n)) (few_after x es a b (is_first_trans x e.0 es c rest.0) rest.1 h.1) (λ y z. few_after e.0 es y z rest.0 rest.1 h.1)
    where
      rest : (is_first e.0 es ≡ true) × (in_order es ≡ true)
      rest = rest_in_order e es o

      by : (b : Bool) → x.id < e.0.id → length (filter chosen es) + e.0.id < 9223372036854775808 → length (cond b (e ∷ filter chosen es) (filter chosen es)) + x.id < 9223372036854775808
      by true l f = omega arith
      by false l f = omega arith

      by_entity : Tested (e.0.entity == n) → length (filter chosen es) + x.id < 9223372036854775808 →
          (e.0.entity ≡ n → e.0.id < 9223372036854775808 → length (filter chosen es) + e.0.id < 9223372036854775808) → length (filter chosen (e ∷ es)) + x.id < 9223372036854775808
      by_entity (inr p) i j = rw p i
      by_entity (inl p) i j =
          let same : e.0.entity ≡ n = eqb-true e.0.entity n p in
          rw p (by (f e) (next_id x e (precedes x e.0 c) a same) (j same (id_high e (h.0 p))))

  pub few_chosen : (t : Tables) → in_order t ≡ true → AllByRecursion (IsOf n) t → length (filter chosen t) < 9223372036854775808
  few_chosen [] o h = omega arith
  few_chosen (e ∷ es) o h = by_entity (tested (e.0.entity == n)) (few_chosen es rest.1 h.1)
    where
      rest : (is_first e.0 es ≡ true) × (in_order es ≡ true)
      rest = rest_in_order e es o

      by : (b : Bool) → 1 ≤ e.0.id → length (filter chosen es) + e.0.id < 9223372036854775808 → length (cond b (e ∷ filter chosen es) (filter chosen es)) < 9223372036854775808
      by true l f = omega arith
      by false l f = omega arith

      by_entity : Tested (e.0.entity == n) → length (filter chosen es) < 9223372036854775808 → length (filter chosen (e ∷ es)) < 9223372036854775808
      by_entity (inr p) i = rw p i
      by_entity (inl p) i = rw p (by (f e) (id_low e (h.0 p)) (few_after e.0 es (eqb-true e.0.entity n p) (id_high e (h.0 p)) rest.0 rest.1 h.1))

-- ---- what a query gives

placed_whole : (os : List Sort) (a : Key × Row) (t : Tables) → IsWhole a → AllByRecursion IsWhole t → AllByRecursion IsWhole (placed os a t)
placed_whole os a [] w h = (w, tt)
placed_whole os a (b ∷ bs) w h = by (comes_before os b a) (placed_whole os a bs w h.1)
  where
    by : (x : Bool) → AllByRecursion IsWhole (placed os a bs) → AllByRecursion IsWhole (cond x (b ∷ placed os a bs) (a ∷ b ∷ bs))
    by true i = (h.0, i)
    by false i = (w, h)

sorted_whole : (os : List Sort) (t : Tables) → AllByRecursion IsWhole t → AllByRecursion IsWhole (sorted os t)
sorted_whole os [] h = tt
sorted_whole os (a ∷ bs) h = placed_whole os a (sorted os bs) h.0 (sorted_whole os bs h.1)

cut_whole : (q : Query) (t : Tables) → AllByRecursion IsWhole t → AllByRecursion IsWhole (take q.limit (drop q.offset (sorted q.order t)))
cut_whole q t h = All-take IsWhole q.limit (drop q.offset (sorted q.order t)) (All-drop IsWhole q.offset (sorted q.order t) (sorted_whole q.order t h))

id_cell : (x : Key × Row) → IsWhole x → is_cell (Cell.Int (pos x.0.id)) ≡ true
id_cell x w = (and_parts (nat_le 1 x.0.id) (nat_lt x.0.id 9223372036854775808) w.0).1

column_cell : (c : ℕ) (x : Key × Row) → IsWhole x → is_cell (unwrap_or (slice_get x.1.cells c) (Cell.Bool false)) ≡ true
column_cell c x w = by (slice_get x.1.cells c) refl
  where
    by : (o : Option Cell) → slice_get x.1.cells c ≡ o → is_cell (unwrap_or o (Cell.Bool false)) ≡ true
    by None e = refl
    by (Some y) e = each_at (λ y. is_cell y ≡ true) x.1.cells c y (each_test is_cell x.1.cells (and_parts (is_version x.1.version) (are_cells x.1.cells) w.1).1) e

selected_good : (q : Query) (t : Tables) (s : Select) → AllByRecursion IsWhole t → length t < 9223372036854775808 → are_cells (selected q t s) ≡ true
selected_good q t Select.Count h f = and_from (nat_lt (length t) 9223372036854775808) true (lt-ltb (length t) 9223372036854775808 f) refl
selected_good q t Select.Ids h f = test_map is_cell (λ a. Cell.Int (pos a.0.id)) IsWhole id_cell (take q.limit (drop q.offset (sorted q.order t))) (cut_whole q t h)
selected_good q t (Select.Column c) h f =
    test_map is_cell (λ a. unwrap_or (slice_get a.1.cells c) (Cell.Bool false)) IsWhole (column_cell c) (take q.limit (drop q.offset (sorted q.order t))) (cut_whole q t h)

pub gives_good : (script : Script) (q : Query) (t : Tables) → is_entity script q.entity ≡ true → AreRows script t → are_cells (gives q t) ≡ true
unfolding gives
gives_good script q t d r =
    let h : AllByRecursion (IsOf q.entity) t = of_entity script q.entity t d r.placed in
    selected_good q (listed q t) q.select (whole_chosen q.entity (λ a. option_map_or (holds t a.1) q.condition true) t h) (few_chosen q.entity (λ a. option_map_or (holds t a.1) q.condition true) t r.ordered h)

-- ---- stamps

stamp_step : (timeout t : ℕ) (a : Act) (now : ℕ) (v : Option ℕ) → timeout ≤ 1000000 → now ≤ 2 ^ 61 → IfSome v (λ n. n ≤ 2 ^ 62) → IfSome (stamp_after timeout t a now v) (λ n. n ≤ 2 ^ 62)
stamp_step timeout t (Act.Pre ts) now v h e g = by (names t ts)
  where
    by : (b : Bool) → IfSome (cond b (Some (now + timeout)) v) (λ n. n ≤ 2 ^ 62)
    by true = omega arith
    by false = g
stamp_step timeout t (Act.Stamp ts) now v h e g = by (names t ts)
  where
    by : (b : Bool) → IfSome (cond b (Some now) v) (λ n. n ≤ 2 ^ 62)
    by true = omega arith
    by false = g
stamp_step timeout t Act.Restart now v h e g = tt
stamp_step timeout t _ now v h e g = g

module _ (script : Script) (timeout : ℕ) (low : timeout ≤ 1000000) where
  stamp_early : (t : ℕ) (h : Journal) → AllGood script h → IfSome (stamp timeout t h) (λ n. n ≤ 2 ^ 62)
  stamp_early t [] g = tt
  stamp_early t (e ∷ h) g = stamp_step timeout t e.act e.tick (stamp timeout t h) low g.0.tick (stamp_early t h g.1)

  pub check_good : (time : ℕ) (ts : List ℕ) (h : Journal) → AllByRecursion (λ t. is_entity script t ≡ true) ts → AllGood script h → is_check script (check timeout time ts h) ≡ true
  check_good time [] h d g = refl
  check_good time (t ∷ ts) h d g = by (stamp timeout t h) (stamp_early t h g) (check_good time ts h d.1 g)
    where
      by_test : (v : ℕ) (b : Bool) → v ≤ 2 ^ 62 → is_check script (check timeout time ts h) ≡ true → is_check script (cond b (check timeout time ts h) (Checked.Stale t v)) ≡ true
      by_test v true e i = i
      by_test v false e i = and_from (is_entity script t) (is_tick v) d.0 (early_tick v e)

      by : (o : Option ℕ) → IfSome o (λ n. n ≤ 2 ^ 62) → is_check script (check timeout time ts h) ≡ true → is_check script (check_one time t o (check timeout time ts h)) ≡ true
      by None e i = i
      by (Some v) e i = by_test v (nat_lt v time) e i

pub query_tables : (script : Script) (q : ℕ) → AllByRecursion (λ t. is_entity script t ≡ true) (tables_of script q)
query_tables script q = by (slice_get script.queries q)
  where
    by : (o : Option Query) → AllByRecursion (λ t. is_entity script t ≡ true) (option_map_or (tables (length script.mapping)) o [])
    by None = tt
    by (Some d) =
        each_filter (λ t. is_entity script t ≡ true) (λ n. reads d n) (range_with_len 0 (length script.mapping))
        (range_below (length script.mapping) 0 (length script.mapping) (omega arith))

-- ---- results

abbrev IsResult : Result → Type 0
IsResult r = (is_tick r.0 ≡ true) × (are_cells r.1 ≡ true)

kept_step : (script : Script) (q : ℕ) (a : Act) (r : Option Result) → is_act script a ≡ true → IfSome r IsResult → IfSome (kept_after q a r) IsResult
kept_step script q (Act.Keep p t l) r h g = by (p == q)
  where
    by : (b : Bool) → IfSome (cond b (Some (t, l)) r) IsResult
    by true = and_parts (is_tick t) (are_cells l) (and_parts (is_query script p) (is_tick t && are_cells l) h).1
    by false = g
kept_step script q Act.Restart r h g = tt
kept_step script q _ r h g = g

kept_good : (script : Script) (q : ℕ) (h : Journal) → AllGood script h → IfSome (last_kept q h) IsResult
kept_good script q [] g = tt
kept_good script q (e ∷ h) g = kept_step script q e.act (last_kept q h) g.0.act (kept_good script q h g.1)

pub found_good : (script : Script) (capacity q : ℕ) (h : Journal) → AllGood script h → is_looked (option_map_or (λ r. Reply.Found r.0 r.1) (result capacity q h) Reply.Absent) ≡ true
unfolding result
found_good script capacity q h g = by (nat_lt (length (others q h)) capacity) (last_kept q h) (kept_good script q h g)
  where
    by : (b : Bool) (o : Option Result) → IfSome o IsResult → is_looked (option_map_or (λ r. Reply.Found r.0 r.1) (cond b o None) Reply.Absent) ≡ true
    by true None i = refl
    by true (Some r) i = and_from (is_tick r.0) (are_cells r.1) i.0 i.1
    by false o i = refl

pub dropped_good : (script : Script) (capacity q : ℕ) (h : Journal) → is_dropped_query script (dropped capacity (length script.queries) q h) ≡ true
unfolding dropped
dropped_good script capacity q h =
    by (find (λ p. is_some (result capacity p h) && not (stays capacity q p h)) (range_with_len 0 (length script.queries)))
    (each_find (λ p. is_query script p ≡ true) (λ p. is_some (result capacity p h) && not (stays capacity q p h)) (range_with_len 0 (length script.queries))
    (range_below (length script.queries) 0 (length script.queries) (omega arith)))
  where
    by : (o : Option ℕ) → IfSome o (λ p. is_query script p ≡ true) → is_dropped_query script o ≡ true
    by None i = refl
    by (Some p) i = i
