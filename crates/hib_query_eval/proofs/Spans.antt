-- Which places a search between two values finds.
use Rattle.std.proofs.Common.{◌≡◌, ℕ, ◌-◌, ◌^◌, ◌<◌, ◌≤◌, Bool, true, false, cond, not, ◌&&◌, ◌||◌, ◌==◌, ◌+◌, List, [], ◌∷◌, ◌++◌, length, map, filter, take, get_or, slice_get, ◌⊎◌, IfSome, MatchOption, Some, None, Option, refl, ap, sym, ◌∙◌, subst, inl, inr, arith}
use Rattle.std.specs.Prelude.{nat_lt, int_lt, ℤ, pos, negsuc, option_and_then}
use Rattle.std.specs.Option.{option_map_or}
use Rattle.std.specs.Ordering.{ordering_then, nat_cmp, int_cmp, is_eq, is_le, is_lt, is_gt}
use Rattle.std.specs.Cmp.Lexicographic.{slice_cmp}
use Rattle.std.specs.declared.cmp.Ordering.{Ordering}
use Rattle.std.specs.declared.cmp.Ordering.TheVariants.{Less, Equal, Greater}
use Rattle.std.proofs.lemmas.Bool.{true≢false, or_left, or_right, or_cases, lt-ltb, le-ltb, ltb-true, ltb-false, eqb-true, eq-eqb}
use Rattle.std.proofs.lemmas.List.Folds.{list_any_more}
use Rattle.hib_base.proofs.Tables.{Tested, tested}
use Rattle.hib_journal.specs.Types.{Cell, Op, Row, Path, Target, Cond}
use Rattle.hib_base.specs.Tables.{Tables, row_at}
use Rattle.hib_journal.specs.Room.{key}
use Rattle.hib_journal.specs.Query.{is_below_text, is_below_cell, is_below_at, passes, same_cell, row_of_ref, cell_at, cell_by, holds}
use Rattle.hib_query_eval.specs.declared.columns.Column.{Column}
use Rattle.hib_query_eval.specs.declared.places.Place.{Place}
use Rattle.hib_query_eval.specs.declared.places.Value.{Value}
use Rattle.hib_query_eval.specs.Orders.{kind}
use Rattle.hib_query_eval.specs.Places.{cell_in, is_place, has_place, has_id, has_cell, IsIndexOf, AreIndexes}
use Rattle.hib_query_eval.specs.Covers.{Covers, Refer}
use Rattle.hib_query_eval.specs.Spans.{value_cmp, place_cmp, is_within}
use Rattle.hib_query_eval.proofs.Merges.{int_one_way, text_one_way, bool_int, bool_text}
use Rattle.hib_query_eval.proofs.Compared.{Parts, place_parts, same_cell_eq, same_cell_refl, value_ties}

-- an order's answers by its tests
int_is_lt : (a b : ℤ) → is_lt (int_cmp a b) ≡ int_lt a b
int_is_lt a b = at (int_lt a b) (int_lt b a)
  where
    at : (p q : Bool) → is_lt (cond p Less (cond q Greater Equal)) ≡ p
    at true q = refl
    at false true = refl
    at false false = refl

int_is_le : (a b : ℤ) → int_lt b a ≡ false → is_le (int_cmp a b) ≡ true
int_is_le a b h = at (int_lt a b) (int_lt b a) h
  where
    at : (p q : Bool) → q ≡ false → is_le (cond p Less (cond q Greater Equal)) ≡ true
    at true q h = refl
    at false true h = absurd (true≢false h)
    at false false h = refl

text_is_lt : (a b : List ℕ) → is_lt (slice_cmp nat_cmp a b) ≡ is_below_text a b
text_is_lt [] [] = refl
text_is_lt [] (y ∷ ys) = refl
text_is_lt (x ∷ xs) [] = refl
text_is_lt (x ∷ xs) (y ∷ ys) = at (nat_lt x y) (x == y) ∙ ap (λ b. nat_lt x y || ((x == y) && b)) (text_is_lt xs ys)
  where
    at : (p q : Bool) → is_lt (ordering_then (cond p Less (cond q Equal Greater)) (slice_cmp nat_cmp xs ys)) ≡ (p || (q && is_lt (slice_cmp nat_cmp xs ys)))
    at true q = refl
    at false true = refl
    at false false = refl

text_is_le : (a b : List ℕ) → is_below_text b a ≡ false → is_le (slice_cmp nat_cmp a b) ≡ true
text_is_le [] [] h = refl
text_is_le [] (y ∷ ys) h = refl
text_is_le (x ∷ xs) [] h = absurd (true≢false h)
text_is_le (x ∷ xs) (y ∷ ys) h = at (tested (nat_lt x y)) (tested (x == y)) (text_is_le xs ys)
  where
    later : Tested (nat_lt y x) → nat_lt x y ≡ false → (x == y) ≡ false → is_le (ordering_then (nat_cmp x y) (slice_cmp nat_cmp xs ys)) ≡ true
    later (inl t) p q = absurd (true≢false (sym (or_left (nat_lt y x) ((y == x) && is_below_text ys xs) t) ∙ h))
    later (inr t) p q =
        let l : y ≤ x = ltb-false x y p in
        let m : x ≤ y = ltb-false y x t in
        let e : x ≡ y = omega arith in
        absurd (true≢false (sym (eq-eqb x y e) ∙ q))

    at : Tested (nat_lt x y) → Tested (x == y) → (is_below_text ys xs ≡ false → is_le (slice_cmp nat_cmp xs ys) ≡ true)
        → is_le (ordering_then (nat_cmp x y) (slice_cmp nat_cmp xs ys)) ≡ true
    at (inl p) q f = rw p refl
    at (inr p) (inl q) f =
        let e : x ≡ y = eqb-true x y q in
        let r : (y == x) ≡ true = eq-eqb y x (sym e) in
        let n : nat_lt y x ≡ false = le-ltb y x (omega arith) in
        rw (p, q) (f (rw (n, r) at h))
    at (inr p) (inr q) f = later (tested (nat_lt y x)) p q

none_below : (o : Option Cell) → is_below_at o None ≡ false
none_below None = refl
none_below (Some x) = refl

-- a cell below another's value isn't above the value
pub below_within : (w v : Value) → is_below_at (cell_in v) (cell_in w) ≡ true → is_lt (value_cmp w v) ≡ false
below_within Value.Least v h = absurd (true≢false (sym h ∙ none_below (cell_in v)))
below_within Value.Greatest v h = absurd (true≢false (sym h ∙ none_below (cell_in v)))
below_within (Value.Int a) Value.Least h = absurd (true≢false (sym h))
below_within (Value.Int a) Value.Greatest h = absurd (true≢false (sym h))
below_within (Value.Int a) (Value.Int b) h = int_is_lt a b ∙ int_one_way b a h
below_within (Value.Int a) (Value.Text b) h = absurd (true≢false (sym h))
below_within (Value.Int a) (Value.Bool b) h = absurd (true≢false (sym h ∙ bool_int b a))
below_within (Value.Text a) Value.Least h = refl
below_within (Value.Text a) Value.Greatest h = absurd (true≢false (sym h))
below_within (Value.Text a) (Value.Int b) h = refl
below_within (Value.Text a) (Value.Text b) h = text_is_lt a.items b.items ∙ text_one_way b.items a.items h
below_within (Value.Text a) (Value.Bool b) h = absurd (true≢false (sym h ∙ bool_text b a.items))
below_within (Value.Bool a) Value.Least h = refl
below_within (Value.Bool a) Value.Greatest h = absurd (true≢false (sym h))
below_within (Value.Bool a) (Value.Int b) h = refl
below_within (Value.Bool a) (Value.Text b) h = refl
below_within (Value.Bool true) (Value.Bool true) h = refl
below_within (Value.Bool true) (Value.Bool false) h = refl
below_within (Value.Bool false) (Value.Bool true) h = absurd (true≢false (sym h))
below_within (Value.Bool false) (Value.Bool false) h = refl

-- a cell above another's value is from the value on
pub above_within : (w v : Value) → is_below_at (cell_in w) (cell_in v) ≡ true → is_le (value_cmp w v) ≡ true
above_within w Value.Least h = absurd (true≢false (sym h ∙ none_below (cell_in w)))
above_within w Value.Greatest h = absurd (true≢false (sym h ∙ none_below (cell_in w)))
above_within Value.Least (Value.Int b) h = refl
above_within Value.Least (Value.Text b) h = refl
above_within Value.Least (Value.Bool b) h = refl
above_within (Value.Int a) (Value.Int b) h = int_is_le a b (int_one_way a b h)
above_within (Value.Int a) (Value.Text b) h = refl
above_within (Value.Int a) (Value.Bool b) h = refl
above_within (Value.Text a) (Value.Int b) h = absurd (true≢false (sym h))
above_within (Value.Text a) (Value.Text b) h = text_is_le a.items b.items (text_one_way a.items b.items h)
above_within (Value.Text a) (Value.Bool b) h = refl
above_within (Value.Bool a) (Value.Int b) h = absurd (true≢false (sym h ∙ bool_int a b))
above_within (Value.Bool a) (Value.Text b) h = absurd (true≢false (sym h ∙ bool_text a b.items))
above_within (Value.Bool true) (Value.Bool true) h = refl
above_within (Value.Bool true) (Value.Bool false) h = absurd (true≢false (sym h))
above_within (Value.Bool false) (Value.Bool true) h = refl
above_within (Value.Bool false) (Value.Bool false) h = refl
above_within Value.Greatest (Value.Int b) h = absurd (true≢false (sym h))
above_within Value.Greatest (Value.Text b) h = absurd (true≢false (sym h))
above_within Value.Greatest (Value.Bool b) h = absurd (true≢false (sym h))

-- a cell that isn't above another's value, or is of a type above; and one that isn't below, or is of a type below
pub not_above : (w v : Value) → 0 < kind (cell_in w) → 0 < kind (cell_in v) → is_below_at (cell_in w) (cell_in v) ≡ false
    → (is_lt (value_cmp w v) ≡ false) ⊎ (kind (cell_in w) < kind (cell_in v))
not_above Value.Least v k l h = absurd (omega arith)
not_above Value.Greatest v k l h = absurd (omega arith)
not_above (Value.Int a) Value.Least k l h = absurd (omega arith)
not_above (Value.Int a) Value.Greatest k l h = absurd (omega arith)
not_above (Value.Int a) (Value.Int b) k l h = inl (int_is_lt a b ∙ h)
not_above (Value.Int a) (Value.Text b) k l h = inr (omega arith)
not_above (Value.Int a) (Value.Bool b) k l h = inr (omega arith)
not_above (Value.Text a) Value.Least k l h = absurd (omega arith)
not_above (Value.Text a) Value.Greatest k l h = absurd (omega arith)
not_above (Value.Text a) (Value.Int b) k l h = inl refl
not_above (Value.Text a) (Value.Text b) k l h = inl (text_is_lt a.items b.items ∙ h)
not_above (Value.Text a) (Value.Bool b) k l h = inr (omega arith)
not_above (Value.Bool a) Value.Least k l h = absurd (omega arith)
not_above (Value.Bool a) Value.Greatest k l h = absurd (omega arith)
not_above (Value.Bool a) (Value.Int b) k l h = inl refl
not_above (Value.Bool a) (Value.Text b) k l h = inl refl
not_above (Value.Bool true) (Value.Bool true) k l h = inl refl
not_above (Value.Bool true) (Value.Bool false) k l h = inl refl
not_above (Value.Bool false) (Value.Bool true) k l h = absurd (true≢false h)
not_above (Value.Bool false) (Value.Bool false) k l h = inl refl

pub not_below : (w v : Value) → 0 < kind (cell_in w) → 0 < kind (cell_in v) → is_below_at (cell_in v) (cell_in w) ≡ false
    → (is_le (value_cmp w v) ≡ true) ⊎ (kind (cell_in v) < kind (cell_in w))
not_below Value.Least v k l h = absurd (omega arith)
not_below Value.Greatest v k l h = absurd (omega arith)
not_below (Value.Int a) Value.Least k l h = absurd (omega arith)
not_below (Value.Int a) Value.Greatest k l h = absurd (omega arith)
not_below (Value.Int a) (Value.Int b) k l h = inl (int_is_le a b h)
not_below (Value.Int a) (Value.Text b) k l h = inl refl
not_below (Value.Int a) (Value.Bool b) k l h = inl refl
not_below (Value.Text a) Value.Least k l h = absurd (omega arith)
not_below (Value.Text a) Value.Greatest k l h = absurd (omega arith)
not_below (Value.Text a) (Value.Int b) k l h = inr (omega arith)
not_below (Value.Text a) (Value.Text b) k l h = inl (text_is_le a.items b.items h)
not_below (Value.Text a) (Value.Bool b) k l h = inl refl
not_below (Value.Bool a) Value.Least k l h = absurd (omega arith)
not_below (Value.Bool a) Value.Greatest k l h = absurd (omega arith)
not_below (Value.Bool a) (Value.Int b) k l h = inr (omega arith)
not_below (Value.Bool a) (Value.Text b) k l h = inr (omega arith)
not_below (Value.Bool true) (Value.Bool true) k l h = inl refl
not_below (Value.Bool true) (Value.Bool false) k l h = absurd (true≢false h)
not_below (Value.Bool false) (Value.Bool true) k l h = inl refl
not_below (Value.Bool false) (Value.Bool false) k l h = inl refl

-- the bounds
pub least_from : (v : Value) → is_le (value_cmp Value.Least v) ≡ true
least_from Value.Least = refl
least_from (Value.Int a) = refl
least_from (Value.Text a) = refl
least_from (Value.Bool a) = refl
least_from Value.Greatest = refl

pub greatest_to : (v : Value) → is_lt (value_cmp Value.Greatest v) ≡ false
greatest_to Value.Least = refl
greatest_to (Value.Int a) = refl
greatest_to (Value.Text a) = refl
greatest_to (Value.Bool a) = refl
greatest_to Value.Greatest = refl

pub least_first : (v : Value) → is_gt (value_cmp Value.Least v) ≡ false
least_first Value.Least = refl
least_first (Value.Int a) = refl
least_first (Value.Text a) = refl
least_first (Value.Bool a) = refl
least_first Value.Greatest = refl

pub greatest_last : (v : Value) → is_gt (value_cmp v Value.Greatest) ≡ false
greatest_last Value.Least = refl
greatest_last (Value.Int a) = refl
greatest_last (Value.Text a) = refl
greatest_last (Value.Bool a) = refl
greatest_last Value.Greatest = refl

pub eq_le : (o : Ordering) → is_eq o ≡ true → is_le o ≡ true
eq_le Less h = refl
eq_le Equal h = refl
eq_le Greater h = absurd (true≢false (sym h))

pub eq_not_lt : (o : Ordering) → is_eq o ≡ true → is_lt o ≡ false
eq_not_lt Less h = absurd (true≢false (sym h))
eq_not_lt Equal h = refl
eq_not_lt Greater h = refl

pub eq_not_gt : (o : Ordering) → is_eq o ≡ true → is_gt o ≡ false
eq_not_gt Less h = refl
eq_not_gt Equal h = refl
eq_not_gt Greater h = absurd (true≢false (sym h))

le_then : (o p : Ordering) → is_le o ≡ true → is_le p ≡ true → is_le (ordering_then o p) ≡ true
le_then Less p h g = refl
le_then Equal p h g = g
le_then Greater p h g = absurd (true≢false (sym h))

lt_then : (o p : Ordering) → is_lt o ≡ false → is_lt p ≡ false → is_lt (ordering_then o p) ≡ false
lt_then Less p h g = absurd (true≢false h)
lt_then Equal p h g = g
lt_then Greater p h g = refl

nat_from : (a b : ℕ) → a ≤ b → is_le (nat_cmp a b) ≡ true
nat_from a b l = at (tested (nat_lt a b)) (tested (a == b))
  where
    at : Tested (nat_lt a b) → Tested (a == b) → is_le (nat_cmp a b) ≡ true
    at (inl p) q = rw p refl
    at (inr p) (inl q) = rw (p, q) refl
    at (inr p) (inr q) =
        let m : b ≤ a = ltb-false a b p in
        let e : a ≡ b = omega arith in
        absurd (true≢false (sym (eq-eqb a b e) ∙ q))

nat_to : (a b : ℕ) → b ≤ a → is_lt (nat_cmp a b) ≡ false
nat_to a b l = let p : nat_lt a b ≡ false = le-ltb a b l in at (a == b) p
  where
    at : (q : Bool) → nat_lt a b ≡ false → is_lt (cond (nat_lt a b) Less (cond q Equal Greater)) ≡ false
    at true p = rw p refl
    at false p = rw p refl

-- a place of a cell is found by a search whose bounds its value is between
module _ (i : ℕ) (d : Cell) (from to : Value) where
  abbrev pub IsBetween : Type 0
  IsBetween = (v : Value) → cell_in v ≡ Some d → (is_le (value_cmp from v) ≡ true) × (is_lt (value_cmp to v) ≡ false)

  within : (p : Place) → is_place i d p ≡ true → i < 2 ^ 64 → IsBetween → is_within from to p ≡ true
  within p h l b =
      let q : Parts i d p = place_parts i d p h in
      let r : (is_le (value_cmp from p.value) ≡ true) × (is_lt (value_cmp to p.value) ≡ false) = b p.value q.0 in
      let low : is_le (place_cmp (record { value = from; id = 0 }) p) ≡ true = le_then (value_cmp from p.value) _ r.0 (nat_from 0 p.id (omega arith)) in
      let high : is_lt (place_cmp (record { value = to; id = 2 ^ 64 - 1 }) p) ≡ false =
      lt_then (value_cmp to p.value) _ r.1 (nat_to (2 ^ 64 - 1) p.id (subst (λ n. n ≤ 2 ^ 64 - 1) q.1 (up_to i l))) in
      at _ _ low high
    where
      up_to : (n : ℕ) → n < 2 ^ 64 → n ≤ 2 ^ 64 - 1
      up_to n h = omega arith

      at : (x y : Ordering) → is_le x ≡ true → is_lt y ≡ false → (is_le x && not (is_lt y)) ≡ true
      at x y s t = rw (s, t) refl

  pub found_between : (ps : List Place) → has_place ps i d ≡ true → i < 2 ^ 64 → IsBetween → has_id i (map (λ p. p.id) (filter (is_within from to) ps)) ≡ true
  found_between [] h l b = absurd (true≢false (sym h))
  found_between (p ∷ ps) h l b = at (tested (is_place i d p)) (tested (is_within from to p)) (λ g. found_between ps g l b)
    where
      at : Tested (is_place i d p) → Tested (is_within from to p)
          → (has_place ps i d ≡ true → has_id i (map (λ p. p.id) (filter (is_within from to) ps)) ≡ true)
          → has_id i (map (λ p. p.id) (filter (is_within from to) (p ∷ ps))) ≡ true
      at (inl t) (inl u) f =
          let q : Parts i d p = place_parts i d p t in
          let n : (p.id == i) ≡ true = eq-eqb p.id i (sym q.1) in
          rw (u, n) refl
      at (inl t) (inr u) f = absurd (true≢false (sym (within p t l b) ∙ u))
      at (inr t) (inl u) f = rw u (or_right (p.id == i) (has_id i (map (λ p. p.id) (filter (is_within from to) ps))) (f (rw t at h)))
      at (inr t) (inr u) f = rw u (f (rw t at h))

pub has_id-append : (i : ℕ) (xs ys : List ℕ) → has_id i (xs ++ ys) ≡ (has_id i xs || has_id i ys)
has_id-append i [] ys = refl
has_id-append i (x ∷ xs) ys = ap (λ b. (x == i) || b) (has_id-append i xs ys) ∙ at (x == i)
  where
    at : (b : Bool) → (b || (has_id i xs || has_id i ys)) ≡ ((b || has_id i xs) || has_id i ys)
    at true = refl
    at false = refl

pub id_kept : (i : ℕ) (xs ys : List ℕ) → has_id i xs ≡ true → has_id i (xs ++ ys) ≡ true
id_kept i xs ys h = has_id-append i xs ys ∙ or_left (has_id i xs) (has_id i ys) h

pub id_more : (i : ℕ) (xs ys : List ℕ) → has_id i ys ≡ true → has_id i (xs ++ ys) ≡ true
id_more i xs ys h = has_id-append i xs ys ∙ or_right (has_id i xs) (has_id i ys) h

-- what each comparison finds
module _ (x d : Cell) (w : Value) (is : cell_in w ≡ Some x) where
  pub eq_between : (u : Value) → cell_in u ≡ Some x → passes Op.Eq d x ≡ true → (i : ℕ) → IsBetween i d w u
  eq_between u o h i v q =
      let p : cell_in v ≡ Some x = q ∙ ap Some (same_cell_eq d x h) in
      (eq_le (value_cmp w v) (value_ties x w v is p), eq_not_lt (value_cmp u v) (value_ties x u v o p))

  pub lt_between : passes Op.Lt d x ≡ true → (i : ℕ) → IsBetween i d Value.Least w
  lt_between h i v q = (least_from v, below_within w v ((λ j. is_below_at (q j) (is j)) ∙ h))

  pub gt_between : passes Op.Gt d x ≡ true → (i : ℕ) → IsBetween i d w Value.Greatest
  gt_between h i v q = (above_within w v ((λ j. is_below_at (is j) (q j)) ∙ h), greatest_to v)

  some_kind : (y : Cell) → 0 < kind (Some y)
  some_kind (Cell.Int n) = omega arith
  some_kind (Cell.Text t) = omega arith
  some_kind (Cell.Bool b) = omega arith

  not_true : (b : Bool) → not b ≡ true → b ≡ false
  not_true true h = absurd (true≢false (sym h))
  not_true false h = refl

  pub le_between : (n : Value) → ((v : Value) → kind (Some x) < kind (cell_in v) → is_le (value_cmp n v) ≡ true) → passes Op.Le d x ≡ true → (i : ℕ) → IsBetween i d Value.Least w ⊎ IsBetween i d n Value.Greatest
  le_between n f h i = at (tested (nat_lt (kind (Some x)) (kind (Some d))))
    where
      at : Tested (nat_lt (kind (Some x)) (kind (Some d))) → IsBetween i d Value.Least w ⊎ IsBetween i d n Value.Greatest
      at (inl t) = inr (λ v q. (f v (subst (λ m. kind (Some x) < m) (sym (ap kind q)) (ltb-true (kind (Some x)) (kind (Some d)) t)), greatest_to v))
      at (inr t) = inl (λ v q. (
        least_from v,
        here v q (not_above w v (subst (λ m. 0 < m) (sym (ap kind is)) (some_kind x)) (subst (λ m. 0 < m) (sym (ap kind q)) (some_kind d))
            ((λ j. is_below_at (is j) (q j)) ∙ not_true (is_below_cell x d) h)),
      ))
        where
          here : (v : Value) → cell_in v ≡ Some d → (is_lt (value_cmp w v) ≡ false) ⊎ (kind (cell_in w) < kind (cell_in v)) → is_lt (value_cmp w v) ≡ false
          here v q (inl l) = l
          here v q (inr l) =
              let m : kind (Some x) < kind (Some d) = subst (λ n. n < kind (Some d)) (ap kind is) (subst (λ n. kind (cell_in w) < n) (ap kind q) l) in
              absurd (true≢false (sym (lt-ltb (kind (Some x)) (kind (Some d)) m) ∙ t))

  pub ge_between : (n : Value) → ((v : Value) → 0 < kind (cell_in v) → kind (cell_in v) < kind (Some x) → is_lt (value_cmp n v) ≡ false) → passes Op.Ge d x ≡ true → (i : ℕ) → IsBetween i d w Value.Greatest ⊎ IsBetween i d Value.Least n
  ge_between n f h i = at (tested (nat_lt (kind (Some d)) (kind (Some x))))
    where
      at : Tested (nat_lt (kind (Some d)) (kind (Some x))) → IsBetween i d w Value.Greatest ⊎ IsBetween i d Value.Least n
      at (inl t) = inr (λ v q. (least_from v, f v (subst (λ m. 0 < m) (sym (ap kind q)) (some_kind d)) (subst (λ m. m < kind (Some x)) (sym (ap kind q)) (ltb-true (kind (Some d)) (kind (Some x)) t))))
      at (inr t) = inl (λ v q. (
        here v q (not_below w v (subst (λ m. 0 < m) (sym (ap kind is)) (some_kind x)) (subst (λ m. 0 < m) (sym (ap kind q)) (some_kind d))
            ((λ j. is_below_at (q j) (is j)) ∙ not_true (is_below_cell d x) h)),
        greatest_to v,
      ))
        where
          here : (v : Value) → cell_in v ≡ Some d → (is_le (value_cmp w v) ≡ true) ⊎ (kind (cell_in v) < kind (cell_in w)) → is_le (value_cmp w v) ≡ true
          here v q (inl l) = l
          here v q (inr l) =
              let m : kind (Some d) < kind (Some x) = subst (λ n. n < kind (Some x)) (ap kind q) (subst (λ n. kind (cell_in v) < n) (ap kind is) l) in
              absurd (true≢false (sym (lt-ltb (kind (Some d)) (kind (Some x)) m) ∙ t))

pub gained : (i : ℕ) (old new more : List ℕ) → new ≡ old ++ more → has_id i more ≡ true → has_id i new ≡ true
gained i old new more e h = ap (has_id i) e ∙ id_more i old more h

pub still : (i : ℕ) (old new more : List ℕ) → new ≡ old ++ more → has_id i old ≡ true → has_id i new ≡ true
still i old new more e h = ap (has_id i) e ∙ id_kept i old more h

-- two searches, of which one finds
module _ (i : ℕ) (d : Cell) (ps : List Place) (from to from' to' : Value) (old mid new : List ℕ) where
  pub one_finds : mid ≡ old ++ map (λ p. p.id) (filter (is_within from to) ps) → new ≡ mid ++ map (λ p. p.id) (filter (is_within from' to') ps)
      → has_place ps i d ≡ true → i < 2 ^ 64 → IsBetween i d from to ⊎ IsBetween i d from' to' → has_id i new ≡ true
  one_finds m n h l (inl b) = still i mid new _ n (gained i old mid _ m (found_between i d from to ps h l b))
  one_finds m n h l (inr b) = gained i mid new _ n (found_between i d from' to' ps h l b)

-- what is behind the types below
pub behind_none : (v : Value) → 0 < kind (cell_in v) → kind (cell_in v) < 1 → is_lt (value_cmp Value.Least v) ≡ false
behind_none v l k = absurd (omega arith)

pub behind_numbers : (t v : Value) (items : List ℕ) → cell_in t ≡ Some (Cell.Text items) → 0 < kind (cell_in v) → kind (cell_in v) < 2 → is_lt (value_cmp t v) ≡ false
behind_numbers Value.Least v xs e l k = cc
behind_numbers (Value.Int a) v xs e l k = cc
behind_numbers (Value.Bool a) v xs e l k = cc
behind_numbers Value.Greatest v xs e l k = cc
behind_numbers (Value.Text a) Value.Least xs e l k = absurd (omega arith)
behind_numbers (Value.Text a) Value.Greatest xs e l k = absurd (omega arith)
behind_numbers (Value.Text a) (Value.Int b) xs e l k = refl
behind_numbers (Value.Text a) (Value.Text b) xs e l k = absurd (omega arith)
behind_numbers (Value.Text a) (Value.Bool b) xs e l k = absurd (omega arith)

pub behind_texts : (b : Bool) (v : Value) → 0 < kind (cell_in v) → kind (cell_in v) < 3 → is_lt (value_cmp (Value.Bool b) v) ≡ false
behind_texts b Value.Least l k = absurd (omega arith)
behind_texts b Value.Greatest l k = absurd (omega arith)
behind_texts b (Value.Int a) l k = refl
behind_texts b (Value.Text a) l k = refl
behind_texts b (Value.Bool a) l k = absurd (omega arith)

-- the rows whose cell in a column passes a test
pub cell_covers : (ps : List Place) (e c : ℕ) (test : Cell → Bool) (ids : List ℕ)
    → ((i : ℕ) (d : Cell) → i < 2 ^ 64 → has_place ps i d ≡ true → test d ≡ true → has_id i ids ≡ true)
    → (t : Tables) → IsIndexOf e c ps t → (r : Row) (i : ℕ) → row_at t (key e i) ≡ Some r → option_map_or test (slice_get r.cells c) false ≡ true → has_id i ids ≡ true
cell_covers ps e c test ids f t x r i at h = by (slice_get r.cells c) refl h
  where
    by : (o : Option Cell) → slice_get r.cells c ≡ o → option_map_or test o false ≡ true → has_id i ids ≡ true
    by None q g = absurd (true≢false (sym g))
    by (Some d) q g =
        let there : has_place ps i d ≡ true = x.cells i d ∙ ap (λ o. has_cell o c d) at ∙ ap (λ x. option_map_or (same_cell d) x false) q ∙ same_cell_refl d in
        f i d (x.fit i d there) there g

-- a comparison at a column of the entity itself
pub no_target_covers : (ps : List Place) (e c : ℕ) (p : Path) (test : Cell → Bool) (ids : List ℕ) → p.target ≡ None → c ≡ p.column
    → ((i : ℕ) (d : Cell) → i < 2 ^ 64 → has_place ps i d ≡ true → test d ≡ true → has_id i ids ≡ true)
    → (t : Tables) → IsIndexOf e c ps t → (r : Row) (i : ℕ) → row_at t (key e i) ≡ Some r → option_map_or test (cell_at t r p) false ≡ true → has_id i ids ≡ true
no_target_covers ps e c p test ids n m f t y r i at h =
    cell_covers ps e c test ids f t y r i at (ap (λ k. option_map_or test (slice_get r.cells k) false) m ∙ sym (ap (λ g. option_map_or test (cell_by t r p.column g) false) n) ∙ h)

-- a comparison at a column of the row to which a cell refers
module _ (ps gs : List Place) (e c : ℕ) (g : Target) (test : Cell → Bool) (targets ids : List ℕ)
    (finds : (i : ℕ) (d : Cell) → i < 2 ^ 64 → has_place gs i d ≡ true → test d ≡ true → has_id i targets ≡ true)
    (refers : Refer ps targets ids) (t : Tables) (x : IsIndexOf e c ps t) (y : IsIndexOf g.entity g.column gs t) where
  -- a row has the place of its cell
  placed : (xs : List Place) (n k i : ℕ) (r : Row) (d : Cell) → IsIndexOf n k xs t → row_at t (key n i) ≡ Some r → slice_get r.cells k ≡ Some d → has_place xs i d ≡ true
  placed xs n k i r d z at q = z.cells i d ∙ ap (λ o. has_cell o k d) at ∙ ap (λ x. option_map_or (same_cell d) x false) q ∙ same_cell_refl d

  referred : (r : Row) (i j : ℕ) → row_at t (key e i) ≡ Some r → slice_get r.cells c ≡ Some (Cell.Int (pos j))
      → (o : Option Row) → row_at t (key g.entity j) ≡ o → option_map_or test (option_and_then (λ x. slice_get x.cells g.column) o) false ≡ true → has_id i ids ≡ true
  referred r i j at q None b h = absurd (true≢false (sym h))
  referred r i j at q (Some s) b h = by (slice_get s.cells g.column) refl h
    where
      by : (o : Option Cell) → slice_get s.cells g.column ≡ o → option_map_or test o false ≡ true → has_id i ids ≡ true
      by None v h = absurd (true≢false (sym h))
      by (Some d) v h =
          let there : has_place gs j d ≡ true = placed gs g.entity g.column j s d y b v in
          let here : has_place ps i (Cell.Int (pos j)) ≡ true = placed ps e c i r (Cell.Int (pos j)) x at q in
          refers i j (x.fit i (Cell.Int (pos j)) here) (finds j d (y.fit j d there) there h) here

  pub step_covers : (p : Path) → p.target ≡ Some g → c ≡ p.column → (r : Row) (i : ℕ) → row_at t (key e i) ≡ Some r → option_map_or test (cell_at t r p) false ≡ true → has_id i ids ≡ true
  step_covers p n m r i at h =
      by (slice_get r.cells c) refl ((λ k. option_map_or test (cell_by t r (m k) (sym n k)) false) ∙ h)
    where
      by : (o : Option Cell) → slice_get r.cells c ≡ o → option_map_or test (option_and_then (λ x. slice_get x.cells g.column) (row_of_ref t g.entity (slice_get r.cells c))) false ≡ true → has_id i ids ≡ true
      by None q h = absurd (true≢false (sym h ∙ ap (λ o. option_map_or test (option_and_then (λ x. slice_get x.cells g.column) (row_of_ref t g.entity o)) false) q))
      by (Some (Cell.Int (pos j))) q h =
          referred r i j at q (row_at t (key g.entity j)) refl (sym (ap (λ o. option_map_or test (option_and_then (λ x. slice_get x.cells g.column) (row_of_ref t g.entity o)) false) q) ∙ h)
      by (Some (Cell.Int (negsuc j))) q h = absurd (true≢false (sym h ∙ ap (λ o. option_map_or test (option_and_then (λ x. slice_get x.cells g.column) (row_of_ref t g.entity o)) false) q))
      by (Some (Cell.Text s)) q h = absurd (true≢false (sym h ∙ ap (λ o. option_map_or test (option_and_then (λ x. slice_get x.cells g.column) (row_of_ref t g.entity o)) false) q))
      by (Some (Cell.Bool b)) q h = absurd (true≢false (sym h ∙ ap (λ o. option_map_or test (option_and_then (λ x. slice_get x.cells g.column) (row_of_ref t g.entity o)) false) q))

pub steps_cover : (ps gs : List Place) (e c k : ℕ) (g : Target) (p : Path) (test : Cell → Bool) (found targets ids : List ℕ) → p.target ≡ Some g → c ≡ p.column → k ≡ g.column → targets ≡ found
    → ((i : ℕ) (d : Cell) → i < 2 ^ 64 → has_place gs i d ≡ true → test d ≡ true → has_id i found ≡ true) → Refer ps targets ids
    → (t : Tables) → IsIndexOf e c ps t → IsIndexOf g.entity k gs t → (r : Row) (i : ℕ) → row_at t (key e i) ≡ Some r → option_map_or test (cell_at t r p) false ≡ true → has_id i ids ≡ true
steps_cover ps gs e c k g p test found targets ids n m l s f h t x y =
    step_covers ps gs e c g test found ids f
    (subst (λ xs. Refer ps xs ids) s h) t x (subst (λ w. IsIndexOf g.entity w gs t) l y) p n m

-- one identifier of a target more
pub refer_more : (ps : List Place) (targets : List ℕ) (n : ℕ) (d : Cell) (m : ℕ) (old new : List ℕ) → m < length targets → n ≡ get_or targets m n → d ≡ Cell.Int (pos n)
    → Refer ps (take m targets) old → ((i : ℕ) → has_id i old ≡ true → has_id i new ≡ true)
    → ((i : ℕ) (x : Cell) → i < 2 ^ 64 → has_place ps i x ≡ true → passes Op.Eq x d ≡ true → has_id i new ≡ true) → Refer ps (take (m + 1) targets) new
refer_more ps targets n d m old new l f q r k g i j b h p = at (tested (has_id j (take m targets)))
  where
    at : Tested (has_id j (take m targets)) → has_id i new ≡ true
    at (inl t) = k i (r i j b t p)
    at (inr t) =
        let s : (n == j) ≡ true =
        sym (ap (λ v. v || (n == j)) t) ∙ ap (λ v. has_id j (take m targets) || (v == j)) f ∙ sym (list_any_more (λ v. v == j) targets m n l) ∙ h in
        let e : n ≡ j = eqb-true n j s in
        g i (Cell.Int (pos j)) b p (ap (same_cell (Cell.Int (pos j))) (q ∙ ap (λ v. Cell.Int (pos v)) e) ∙ same_cell_refl (Cell.Int (pos j)))

pub no_refer : (ps : List Place) (ids : List ℕ) → Refer ps [] ids
no_refer ps ids i j b h p = absurd (true≢false (sym h))

-- a condition of two of which one holds
pub or_covers : (cs : List Column) (e : ℕ) (a b : Cond) (p : Option (List ℕ)) (q : Option (List ℕ)) (ids : List ℕ) → IfSome p (Covers cs e a) → IfSome q (Covers cs e b)
    → MatchOption p ⊥ (λ x. MatchOption q ⊥ (λ y. ids ≡ x ++ y)) → (t : Tables) → AreIndexes cs t → (r : Row) (i : ℕ) → row_at t (key e i) ≡ Some r
    → (holds t r a || holds t r b) ≡ true → has_id i ids ≡ true
or_covers cs e a b None q ids f g u t x r i at h = absurd u
or_covers cs e a b (Some xs) None ids f g u t x r i at h = absurd u
or_covers cs e a b (Some xs) (Some ys) ids f g u t x r i at h = by (or_cases (holds t r a) (holds t r b) h)
  where
    by : (holds t r a ≡ true) ⊎ (holds t r b ≡ true) → has_id i ids ≡ true
    by (inl v) = still i xs ids ys u (f t x r i at v)
    by (inr v) = gained i xs ids ys u (g t x r i at v)
