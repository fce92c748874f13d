-- What a query gives depends on its tables alone.
use Rattle.std.proofs.Common.{◌≡◌, ℕ, Bool, true, false, cond, not, ◌&&◌, ◌==◌, List, [], ◌∷◌, slice_get, Some, None, Option, refl, ap, sym, ◌∙◌, subst, inl, inr}
use Rattle.std.proofs.lemmas.Bool.{true≢false, or_parts, or_left, or_right, eq-eqb, ne_eqb}
use Rattle.std.specs.Prelude.{pos, negsuc, option_and_then}
use Rattle.std.specs.Option.{option_map_or}
use Rattle.std.specs.List.{list_any, filter}
use Rattle.hib_journal.specs.Types.{Key, Row, Cell, Change, Target, Cond, Query}
use Rattle.hib_base.specs.Keys.{same_key, is_before}
use Rattle.hib_base.specs.Tables.{Tables, row_at, with_row, without_row, tables_with, key_of, row_left, after_change, after_changes}
use Rattle.hib_base.proofs.Tables.{Tested, tested, same_key_eq, row_at_other_change}
use Rattle.hib_journal.specs.Room.{key}
use Rattle.hib_journal.specs.Query as told
use Rattle.hib_journal.specs.Query.{holds, mentions}

abbrev pub touches : ℕ → List Change → Bool
touches n cs = list_any (λ c. (key_of c).entity == n) cs

-- the rows of one table
abbrev pub rows_in : ℕ → Tables → Tables
rows_in n t = filter (λ a. a.0.entity == n) t

with_other : (n : ℕ) (t : Tables) (k : Key) (r : Row) → (k.entity == n) ≡ false → rows_in n (with_row t k r) ≡ rows_in n t
with_other n [] k r d = rw d refl
with_other n (e ∷ es) k r d = by_key (tested (same_key e.0 k)) (tested (is_before k e.0)) (with_other n es k r d)
  where
    by_key : Tested (same_key e.0 k) → Tested (is_before k e.0) → rows_in n (with_row es k r) ≡ rows_in n es → rows_in n (with_row (e ∷ es) k r) ≡ rows_in n (e ∷ es)
    by_key (inl p) b i =
        let q : (e.0.entity == n) ≡ false = subst (λ y. (y.entity == n) ≡ false) (sym (same_key_eq e.0 k p)) d in
        rw (p, d, q) refl
    by_key (inr p) (inl b) i = rw (p, b, d) refl
    by_key (inr p) (inr b) i = rw (p, b) (ap (λ es. cond (e.0.entity == n) (e ∷ es) es) i)

without_other : (n : ℕ) (t : Tables) (k : Key) → (k.entity == n) ≡ false → rows_in n (without_row t k) ≡ rows_in n t
without_other n [] k d = refl
without_other n (e ∷ es) k d = by_key (tested (same_key e.0 k)) (without_other n es k d)
  where
    by_key : Tested (same_key e.0 k) → rows_in n (without_row es k) ≡ rows_in n es → rows_in n (without_row (e ∷ es) k) ≡ rows_in n (e ∷ es)
    by_key (inl p) i =
        let q : (e.0.entity == n) ≡ false = subst (λ y. (y.entity == n) ≡ false) (sym (same_key_eq e.0 k p)) d in
        rw (p, q) i
    by_key (inr p) i = rw p (ap (λ es. cond (e.0.entity == n) (e ∷ es) es) i)

change_other : (n : ℕ) (c : Change) (t : Tables) → ((key_of c).entity == n) ≡ false → rows_in n (after_change c t) ≡ rows_in n t
change_other n c t d = by_row (row_left c)
  where
    by_row : (o : Option Row) → rows_in n (tables_with t (key_of c) o) ≡ rows_in n t
    by_row (Some r) = with_other n t (key_of c) r d
    by_row None = without_other n t (key_of c) d

-- changes that do not touch a table leave its rows
rows_same : (n : ℕ) (cs : List Change) (t : Tables) → touches n cs ≡ false → rows_in n (after_changes cs t) ≡ rows_in n t
rows_same n [] t e = refl
rows_same n (c ∷ cs) t e =
    let p : (((key_of c).entity == n) ≡ false) × (touches n cs ≡ false) = or_parts ((key_of c).entity == n) (touches n cs) e in
    rows_same n cs (after_change c t) p.1 ∙ change_other n c t p.0

not_same : (c : Change) (k : Key) → ((key_of c).entity == k.entity) ≡ false → same_key (key_of c) k ≡ false
not_same c k e = rw e refl

-- and so the row of each key of the table
pub row_same : (k : Key) (cs : List Change) (t : Tables) → touches k.entity cs ≡ false → row_at (after_changes cs t) k ≡ row_at t k
row_same k [] t e = refl
row_same k (c ∷ cs) t e =
    let p : (((key_of c).entity == k.entity) ≡ false) × (touches k.entity cs ≡ false) = or_parts ((key_of c).entity == k.entity) (touches k.entity cs) e in
    row_same k cs (after_change c t) p.1 ∙ row_at_other_change c t k (not_same c k p.0)

-- two tables in which the rows of each mentioned table are the same
module _ (t u : Tables) where
  abbrev pub Agree : (ℕ → Bool) → Type 0
  Agree p = (n i : ℕ) → p n ≡ true → row_at t (key n i) ≡ row_at u (key n i)

  ref_same : (n : ℕ) (c : Option Cell) → ((i : ℕ) → row_at t (key n i) ≡ row_at u (key n i)) → told.row_of_ref t n c ≡ told.row_of_ref u n c
  ref_same n (Some (Cell.Int (pos i))) f = f i
  ref_same n (Some (Cell.Int (negsuc i))) f = refl
  ref_same n (Some (Cell.Text x)) f = refl
  ref_same n (Some (Cell.Bool b)) f = refl
  ref_same n None f = refl

  cell_same : (r : Row) (c : ℕ) (g : Option Target) → Agree (λ n. option_map_or (λ x. x.entity == n) g false) → told.cell_by t r c g ≡ told.cell_by u r c g
  cell_same r c None f = refl
  cell_same r c (Some g) f =
      ap (λ o. option_and_then (λ x. slice_get x.cells g.column) o) (ref_same g.entity (slice_get r.cells c) (λ i. f g.entity i (eq-eqb g.entity g.entity refl)))

  pub holds_same : (r : Row) (c : Cond) → Agree (λ n. told.mentions n c) → told.holds t r c ≡ told.holds u r c
  holds_same r (Cond.And' p a q b) f =
      let x : told.holds t r a ≡ told.holds u r a = holds_same r a (λ n i e. f n i (or_left (told.mentions n a) (told.mentions n b) e)) in
      let y : told.holds t r b ≡ told.holds u r b = holds_same r b (λ n i e. f n i (or_right (told.mentions n a) (told.mentions n b) e)) in
      rw (x, y) refl
  holds_same r (Cond.Or' p a q b) f =
      let x : told.holds t r a ≡ told.holds u r a = holds_same r a (λ n i e. f n i (or_left (told.mentions n a) (told.mentions n b) e)) in
      let y : told.holds t r b ≡ told.holds u r b = holds_same r b (λ n i e. f n i (or_right (told.mentions n a) (told.mentions n b) e)) in
      rw (x, y) refl
  holds_same r (Cond.Not' p a) f = ap not (holds_same r a f)
  holds_same r (Cond.Test op p c) f = ap (λ o. option_map_or (λ d. told.passes op d c) o false) (cell_same r p.column p.target f)
  holds_same r (Cond.Among p cs) f = ap (λ o. option_map_or (λ d. list_any (λ c. told.same_cell d c) cs) o false) (cell_same r p.column p.target f)

  meets_same : (r : Row) (c : Option Cond) → Agree (λ n. option_map_or (mentions n) c false) → option_map_or (holds t r) c true ≡ option_map_or (holds u r) c true
  meets_same r None f = refl
  meets_same r (Some c) f = holds_same r c f

filter_both : (p q : Key × Row → Bool) (t : Tables) → filter (λ a. p a && q a) t ≡ filter q (filter p t)
filter_both p q [] = refl
filter_both p q (a ∷ t) = by_test (tested (p a)) (filter_both p q t)
  where
    by_test : Tested (p a) → filter (λ a. p a && q a) t ≡ filter q (filter p t) → filter (λ a. p a && q a) (a ∷ t) ≡ filter q (filter p (a ∷ t))
    by_test (inl x) i = rw x (ap (λ z. cond (q a) (a ∷ z) z) i)
    by_test (inr x) i = rw x i

-- a query gives the same over tables in which its entity has the same rows, and in which each row to which it steps is the same
pub gives_alike : (d : Query) (t u : Tables) → rows_in d.entity t ≡ rows_in d.entity u
    → ((n i : ℕ) → option_map_or (mentions n) d.condition false ≡ true → row_at t (key n i) ≡ row_at u (key n i)) → told.gives d t ≡ told.gives d u
unfolding told.gives
gives_alike d t u ours agree = ap (λ rows. told.selected d rows d.select) listed_same
  where
    meets : (a : Key × Row) → option_map_or (holds t a.1) d.condition true ≡ option_map_or (holds u a.1) d.condition true
    meets a = meets_same t u a.1 d.condition agree

    swap : ◌≡◌ {A = Key × Row → Bool} (λ a. option_map_or (holds t a.1) d.condition true) (λ a. option_map_or (holds u a.1) d.condition true)
    swap = λ i a. meets a i

    listed_same : told.listed d t ≡ told.listed d u
    listed_same =
        filter_both (λ a. a.0.entity == d.entity) (λ a. option_map_or (holds t a.1) d.condition true) t
        ∙ (ap (λ p. filter p (rows_in d.entity t)) swap
        ∙ (ap (λ rows. filter (λ a. option_map_or (holds u a.1) d.condition true) rows) ours
        ∙ sym (filter_both (λ a. a.0.entity == d.entity) (λ a. option_map_or (holds u a.1) d.condition true) u)))

-- a query gives the same over tables that changes of none of its tables lead to
pub gives_same : (d : Query) (cs : List Change) (t : Tables) → ((n : ℕ) → told.reads d n ≡ true → touches n cs ≡ false) →
    told.gives d (after_changes cs t) ≡ told.gives d t
gives_same d cs t f =
    gives_alike d (after_changes cs t) t
    (rows_same d.entity cs t (f d.entity (or_left (d.entity == d.entity) (option_map_or (mentions d.entity) d.condition false) (eq-eqb d.entity d.entity refl))))
    (λ n i e. row_same (key n i) cs t (f n (or_right (d.entity == n) (option_map_or (mentions n) d.condition false) e)))

-- a table that a query reads is none that changes outside of its tables touch
untouched : (d : Query) (cs : List Change) → list_any (λ c. told.reads d (key_of c).entity) cs ≡ false → (n : ℕ) → told.reads d n ≡ true → touches n cs ≡ false
untouched d [] e n r = refl
untouched d (c ∷ cs) e n r =
    let p : (told.reads d (key_of c).entity ≡ false) × (list_any (λ c. told.reads d (key_of c).entity) cs ≡ false) =
    or_parts (told.reads d (key_of c).entity) (list_any (λ c. told.reads d (key_of c).entity) cs) e in
    rw (ne_eqb (key_of c).entity n (λ s. true≢false (sym r ∙ subst (λ m. told.reads d m ≡ false) s p.0))) (untouched d cs p.1 n r)

pub gives_after : (d : Query) (cs : List Change) (t : Tables) → list_any (λ c. told.reads d (key_of c).entity) cs ≡ false
    → told.gives d (after_changes cs t) ≡ told.gives d t
gives_after d cs t e = gives_same d cs t (untouched d cs e)
