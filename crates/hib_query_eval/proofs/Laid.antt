-- The rows that a query reads, with a session's changes laid over them, give what the session's view gives.
use Rattle.std.specs.Option.{option_map_or}
use Rattle.std.proofs.Common.{◌≡◌, ℕ, Bool, true, false, cond, ◌==◌, List, [], ◌∷◌, Some, None, Option, IfSome, refl, sym, ap, ◌∙◌, subst, inl, inr, eq-eqb}
use Rattle.std.proofs.lemmas.Bool.{eqb-true, or_left, or_right, and_from, both_ways}
use Rattle.std.specs.List.{filter}
use Rattle.hib_base.specs.Keys.{same_key, is_before}
use Rattle.hib_base.specs.Tables.{Tables, row_at, with_row, unless_there, with_absent, last_on, after_changes, is_first, in_order}
use Rattle.hib_base.proofs.Tables.{Tested, tested, same_key_eq, same_key_refl, left_by, row_at_changes, row_at_with_same, row_at_with_other}
use Rattle.hib_outside.specs.Keeps.{is_listed, rows_of}
use Rattle.hib_outside.proofs.Orders.{is_before_total, is_first_trans, rest_in_order, row_at_before, in_order_changes, in_order_with_absent}
use Rattle.hib_journal.specs.Query.{reads, gives, mentions}
use Rattle.hib_journal.specs.Room.{key}
use Rattle.hib_journal.proofs.Untouched.{rows_in, gives_alike}
use Rattle.hib_journal.specs.Types.{Key, Row, Change, Query}
use Rattle.hib_query_eval.specs.Reads.{read_by}

-- the rows of some tables
abbrev pub kept : (ℕ → Bool) → Tables → Tables
kept p t = filter (λ e. p e.0.entity) t

-- the rows of the entities that a query reads are those that are listed
pub listed_read : (es : List ℕ) (q : Query) (m : Tables) → ((n : ℕ) → is_listed n es ≡ reads q n) → rows_of es m ≡ read_by q m
listed_read es q [] f = refl
listed_read es q (e ∷ m) f =
    ap (λ b. cond b (e ∷ rows_of es m) (rows_of es m)) (f e.0.entity)
    ∙ ap (λ rows. cond (reads q e.0.entity) (e ∷ rows) rows) (listed_read es q m f)

pub row_at_kept : (p : ℕ → Bool) (t : Tables) (k : Key) → row_at (kept p t) k ≡ cond (p k.entity) (row_at t k) None
row_at_kept p [] k = at (p k.entity) None
  where
    at : (b : Bool) (o : Option Row) → o ≡ cond b o o
    at true o = refl
    at false o = refl
row_at_kept p (e ∷ es) k = at (tested (p e.0.entity)) (tested (same_key e.0 k)) (row_at_kept p es k)
  where
    one : same_key e.0 k ≡ true → p k.entity ≡ p e.0.entity
    one s = ap (λ j. p j.entity) (sym (same_key_eq e.0 k s))

    at : Tested (p e.0.entity) → Tested (same_key e.0 k) → row_at (kept p es) k ≡ cond (p k.entity) (row_at es k) None
        → row_at (kept p (e ∷ es)) k ≡ cond (p k.entity) (row_at (e ∷ es) k) None
    at (inl r) (inl s) h = let c : p k.entity ≡ true = one s ∙ r in rw (r, s, c) refl
    at (inl r) (inr s) h = rw (r, s) h
    at (inr r) (inl s) h = let c : p k.entity ≡ false = one s ∙ r in rw (r, c) (rw c at h)
    at (inr r) (inr s) h = rw (r, s) h

-- the rows that pass a test stay in order
module _ (P : Key × Row → Bool) where
  pub is_first_passed : (k : Key) (t : Tables) → is_first k t ≡ true → in_order t ≡ true → is_first k (filter P t) ≡ true
  is_first_passed k [] f o = refl
  is_first_passed k (e ∷ es) f o =
      let r : (is_first e.0 es ≡ true) × (in_order es ≡ true) = rest_in_order e es o in
      at (tested (P e)) (is_first_passed k es (is_first_trans k e.0 es f r.0) r.1)
    where
      at : Tested (P e) → is_first k (filter P es) ≡ true → is_first k (filter P (e ∷ es)) ≡ true
      at (inl r) h = rw r f
      at (inr r) h = rw r h

  pub in_order_passed : (t : Tables) → in_order t ≡ true → in_order (filter P t) ≡ true
  in_order_passed [] o = refl
  in_order_passed (e ∷ es) o =
      let r : (is_first e.0 es ≡ true) × (in_order es ≡ true) = rest_in_order e es o in
      at (tested (P e)) (is_first_passed e.0 es r.0 r.1) (in_order_passed es r.1)
    where
      at : Tested (P e) → is_first e.0 (filter P es) ≡ true → in_order (filter P es) ≡ true → in_order (filter P (e ∷ es)) ≡ true
      at (inl r) f h = rw r (and_from (is_first e.0 (filter P es)) (in_order (filter P es)) f h)
      at (inr r) f h = rw r h

pub in_order_kept : (p : ℕ → Bool) (t : Tables) → in_order t ≡ true → in_order (kept p t) ≡ true
in_order_kept p t o = in_order_passed (λ e. p e.0.entity) t o

pub other_way : (a b : Key) → same_key a b ≡ false → same_key b a ≡ false
other_way a b n = at (tested (same_key b a))
  where
    at : Tested (same_key b a) → same_key b a ≡ false
    at (inl y) = absurd (both_ways (same_key a b) n (subst (λ j. same_key j b ≡ true) (same_key_eq b a y) (same_key_refl b)))
    at (inr y) = y

-- tables in order are what they have at each key
pub same_tables : (t u : Tables) → in_order t ≡ true → in_order u ≡ true → ((k : Key) → row_at t k ≡ row_at u k) → t ≡ u
same_tables [] [] o p f = refl
same_tables [] (b ∷ ys) o p f = let h = rw (same_key_refl b.0) at (f b.0) in cc
same_tables (a ∷ xs) [] o p f = let h = rw (same_key_refl a.0) at (f a.0) in cc
same_tables (a ∷ xs) (b ∷ ys) o p f = at (tested (same_key a.0 b.0)) (tested (is_before a.0 b.0)) (same_tables xs ys rest.1 other.1)
  where
    here : (x : Key × Row) (es : Tables) → row_at (x ∷ es) x.0 ≡ Some x.1
    here x es = rw (same_key_refl x.0) refl

    rest : (is_first a.0 xs ≡ true) × (in_order xs ≡ true)
    rest = rest_in_order a xs o

    other : (is_first b.0 ys ≡ true) × (in_order ys ≡ true)
    other = rest_in_order b ys p

    missing : {A : Type 0} (r : Row) (o : Option Row) → o ≡ Some r → o ≡ None → A
    missing r o h n = let c : Some r ≡ None = sym h ∙ n in cc

    later : a.0 ≡ b.0 → (k : Key) → Tested (same_key a.0 k) → row_at xs k ≡ row_at ys k
    later e k (inl s) =
        let i : a.0 ≡ k = same_key_eq a.0 k s in
        row_at_before xs k rest.1 (subst (λ j. is_first j xs ≡ true) i rest.0)
        ∙ sym (row_at_before ys k other.1 (subst (λ j. is_first j ys ≡ true) (sym e ∙ i) other.0))
    later e k (inr s) =
        let d : same_key b.0 k ≡ false = ap (λ j. same_key j k) (sym e) ∙ s in
        rw (s, d) at (f k)

    at : Tested (same_key a.0 b.0) → Tested (is_before a.0 b.0) → (((k : Key) → row_at xs k ≡ row_at ys k) → xs ≡ ys) → a ∷ xs ≡ b ∷ ys
    at (inl s) d g =
        let e : a.0 ≡ b.0 = same_key_eq a.0 b.0 s in
        let r : Some a.1 ≡ Some b.1 = sym (here a xs) ∙ f a.0 ∙ ap (row_at (b ∷ ys)) e ∙ here b ys in
        let v : a.1 ≡ b.1 = cc in
        let i : xs ≡ ys = g (λ k. later e k (tested (same_key a.0 k))) in
        ap (λ k. (k, a.1) ∷ xs) e ∙ ap (λ r. (b.0, r) ∷ xs) v ∙ ap (λ es. b ∷ es) i
    at (inr s) (inl d) g = missing a.1 (row_at (a ∷ xs) a.0) (here a xs) (f a.0 ∙ row_at_before (b ∷ ys) a.0 p d)
    at (inr s) (inr d) g =
        let c : same_key b.0 a.0 ≡ false = other_way a.0 b.0 s in
        missing b.1 (row_at (b ∷ ys) b.0) (here b ys) (sym (f b.0) ∙ row_at_before (a ∷ xs) b.0 o (is_before_total b.0 a.0 c d))

abbrev pub or_row : Option Row → Option Row → Option Row
or_row None o = o
or_row (Some r) o = Some r

row_at_unless : (t : Tables) (k j : Key) (r : Row) → row_at (unless_there t k r (row_at t k)) j ≡ or_row (row_at t j) (cond (same_key k j) (Some r) None)
row_at_unless t k j r = at (row_at t k) refl (tested (same_key k j)) (row_at t j) refl
  where
    at : (o : Option Row) → row_at t k ≡ o → Tested (same_key k j) → (x : Option Row) → row_at t j ≡ x
        → row_at (unless_there t k r (row_at t k)) j ≡ or_row (row_at t j) (cond (same_key k j) (Some r) None)
    at None e (inl s) x f =
        let i : k ≡ j = same_key_eq k j s in
        let g : row_at t j ≡ None = ap (row_at t) (sym i) ∙ e in
        let w : row_at (with_row t k r) j ≡ Some r = ap (row_at (with_row t k r)) (sym i) ∙ row_at_with_same t k r in
        rw (e, g, s) w
    at None e (inr s) None f = rw (e, f, s) (row_at_with_other t k j r s ∙ f)
    at None e (inr s) (Some y) f = rw (e, f) (row_at_with_other t k j r s ∙ f)
    at (Some z) e (inl s) x f =
        let g : row_at t j ≡ Some z = ap (row_at t) (sym (same_key_eq k j s)) ∙ e in
        rw (e, g) refl
    at (Some z) e (inr s) None f = rw (e, f, s) refl
    at (Some z) e (inr s) (Some y) f = rw (e, f) refl

-- of the rows of a key the first one counts
pub row_at_with_absent : (t es : Tables) (k : Key) → row_at (with_absent t es) k ≡ or_row (row_at t k) (row_at es k)
row_at_with_absent t [] k = at (row_at t k)
  where
    at : (o : Option Row) → o ≡ or_row o None
    at None = refl
    at (Some r) = refl
row_at_with_absent t (e ∷ es) k =
    row_at_with_absent (unless_there t e.0 e.1 (row_at t e.0)) es k
    ∙ ap (λ o. or_row o (row_at es k)) (row_at_unless t e.0 k e.1)
    ∙ at (row_at t k) (same_key e.0 k)
  where
    at : (o : Option Row) (b : Bool) → or_row (or_row o (cond b (Some e.1) None)) (row_at es k) ≡ or_row o (cond b (Some e.1) (row_at es k))
    at None true = refl
    at None false = refl
    at (Some r) b = refl

-- the view of the tables that a query reads
abbrev view : Query → List Change → Tables → Tables
view q cs m = after_changes cs (with_absent [] (read_by q m))

row_at_view : (q : Query) (cs : List Change) (m : Tables) (k : Key) → reads q k.entity ≡ true → row_at (view q cs m) k ≡ row_at (after_changes cs m) k
row_at_view q cs m k r =
    let there : row_at (with_absent [] (read_by q m)) k ≡ row_at m k =
    row_at_with_absent [] (read_by q m) k ∙ row_at_kept (reads q) m k ∙ ap (λ b. cond b (row_at m k) None) r in
    row_at_changes cs (with_absent [] (read_by q m)) k ∙ ap (left_by (last_on k cs)) there ∙ sym (row_at_changes cs m k)

rows_view : (q : Query) (cs : List Change) (m : Tables) → in_order m ≡ true → rows_in q.entity (view q cs m) ≡ rows_in q.entity (after_changes cs m)
rows_view q cs m o =
    same_tables (kept own (view q cs m)) (kept own (after_changes cs m))
    (in_order_kept own (view q cs m) (in_order_changes cs (with_absent [] (read_by q m)) (in_order_with_absent [] (read_by q m) refl)))
    (in_order_kept own (after_changes cs m) (in_order_changes cs m o))
    (λ k. row_at_kept own (view q cs m) k ∙ at k (tested (k.entity == q.entity)) ∙ sym (row_at_kept own (after_changes cs m) k))
  where
    own : ℕ → Bool
    own n = n == q.entity

    at : (k : Key) → Tested (k.entity == q.entity) → cond (k.entity == q.entity) (row_at (view q cs m) k) None ≡ cond (k.entity == q.entity) (row_at (after_changes cs m) k) None
    at k (inl s) =
        let e : q.entity ≡ k.entity = sym (eqb-true k.entity q.entity s) in
        ap (λ o. cond (k.entity == q.entity) o None) (row_at_view q cs m k (or_left (q.entity == k.entity) (option_map_or (mentions k.entity) q.condition false) (eq-eqb q.entity k.entity e)))
    at k (inr s) = rw s refl

-- a query gives the same over the rows that it reads
gives_view : (q : Query) (cs : List Change) (m : Tables) → in_order m ≡ true → gives q (view q cs m) ≡ gives q (after_changes cs m)
gives_view q cs m o =
    gives_alike q (view q cs m) (after_changes cs m) (rows_view q cs m o)
    (λ n i e. row_at_view q cs m (key n i) (or_right (q.entity == n) (option_map_or (mentions n) q.condition false) e))

-- what is given over the view of the rows that were read, as what is given over the session's view
pub read_gives : (q : Query) (cs : List Change) (m rows v : Tables) → in_order m ≡ true → rows ≡ read_by q m → v ≡ after_changes cs (with_absent [] rows)
    → gives q v ≡ gives q (after_changes cs m)
read_gives q cs m rows v o r e = ap (gives q) (e ∙ ap (λ xs. after_changes cs (with_absent [] xs)) r) ∙ gives_view q cs m o

-- and so of a keeper's rows, if it tells its tables
pub listed_told : (es : List ℕ) (q : Query) (told : Option Tables) (rows : Tables) → ((n : ℕ) → is_listed n es ≡ reads q n)
    → IfSome told (λ m. rows ≡ rows_of es m) → IfSome told (λ m. rows ≡ read_by q m)
listed_told es q None rows f h = tt
listed_told es q (Some m) rows f h = h ∙ listed_read es q m f
