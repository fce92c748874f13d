-- Places of cells: how they compare, and what adding and dropping one does.
use Rattle.std.proofs.Common.{◌≡◌, ℕ, ◌≤◌, Bool, true, false, cond, not, ◌&&◌, ◌||◌, ◌==◌, List, [], ◌∷◌, Some, None, Option, refl, ap, sym, ◌∙◌, subst, inl, inr, arith}
use Rattle.std.specs.Prelude.{int_le, ℤ, pos, negsuc}
use Rattle.std.specs.Option.{option_map_or}
use Rattle.std.specs.List.{list_any}
use Rattle.std.proofs.lemmas.Bool.{true≢false, and_parts, and_from, le-leb, leb-true, eqb-true, eq-eqb}
use Rattle.std.specs.Cmp.{signed_Decides, unsigned_tied}
use Rattle.std.proofs.lemmas.Slice.Eq.{bytes_eq-Decides}
use Rattle.std.proofs.lemmas.Map.Text.{is_eq-slice_cmp}
use Rattle.std.specs.Ordering.{ordering_then, nat_cmp, bool_cmp, is_eq}
use Rattle.std.specs.declared.cmp.Ordering.{Ordering}
use Rattle.std.specs.declared.cmp.Ordering.TheVariants.{Less, Equal, Greater}
use Rattle.hib_base.proofs.Tables.{Tested, tested}
use Rattle.hib_journal.specs.Types.{Cell}
use Rattle.hib_journal.specs.Query.{same_cell}
use Rattle.hib_query_eval.specs.declared.places.Place.{Place}
use Rattle.hib_query_eval.specs.declared.places.Value.{Value}
use Rattle.hib_query_eval.specs.Places.{cell_in, is_place, has_place}
use Rattle.hib_query_eval.specs.Spans.{value_cmp, place_cmp}

-- the same cells

int_le_self : (a : ℤ) → int_le a a ≡ true
int_le_self (pos a) = le-leb a a (omega arith)
int_le_self (negsuc a) = le-leb a a (omega arith)

int_same : (a b : ℤ) → (int_le a b && int_le b a) ≡ true → a ≡ b
int_same a b h =
    let p : (int_le a b ≡ true) × (int_le b a ≡ true) = and_parts (int_le a b) (int_le b a) h in
    at a b p.0 p.1
  where
    at : (a b : ℤ) → int_le a b ≡ true → int_le b a ≡ true → a ≡ b
    at (pos a) (pos b) p q = let l : a ≤ b = leb-true a b p in let m : b ≤ a = leb-true b a q in let e : a ≡ b = omega arith in ap pos e
    at (pos a) (negsuc b) p q = absurd (true≢false (sym p))
    at (negsuc a) (pos b) p q = absurd (true≢false (sym q))
    at (negsuc a) (negsuc b) p q = let l : b ≤ a = leb-true b a p in let m : a ≤ b = leb-true a b q in let e : a ≡ b = omega arith in ap negsuc e

pub same_cell_refl : (d : Cell) → same_cell d d ≡ true
same_cell_refl (Cell.Int n) = and_from (int_le n n) (int_le n n) (int_le_self n) (int_le_self n)
same_cell_refl (Cell.Text t) = (bytes_eq-Decides t t).1 refl
same_cell_refl (Cell.Bool true) = refl
same_cell_refl (Cell.Bool false) = refl

pub same_cell_eq : (a b : Cell) → same_cell a b ≡ true → a ≡ b
same_cell_eq (Cell.Int a) (Cell.Int b) h = ap Cell.Int (int_same a b h)
same_cell_eq (Cell.Int a) (Cell.Text b) h = absurd (true≢false (sym h))
same_cell_eq (Cell.Int a) (Cell.Bool b) h = absurd (true≢false (sym h))
same_cell_eq (Cell.Text a) (Cell.Int b) h = absurd (true≢false (sym h))
same_cell_eq (Cell.Text a) (Cell.Text b) h = ap Cell.Text ((bytes_eq-Decides a b).0 h)
same_cell_eq (Cell.Text a) (Cell.Bool b) h = absurd (true≢false (sym h))
same_cell_eq (Cell.Bool true) (Cell.Int b) h = absurd (true≢false (sym h))
same_cell_eq (Cell.Bool false) (Cell.Int b) h = absurd (true≢false (sym h))
same_cell_eq (Cell.Bool true) (Cell.Text b) h = absurd (true≢false (sym h))
same_cell_eq (Cell.Bool false) (Cell.Text b) h = absurd (true≢false (sym h))
same_cell_eq (Cell.Bool true) (Cell.Bool true) h = refl
same_cell_eq (Cell.Bool true) (Cell.Bool false) h = absurd (true≢false (sym h))
same_cell_eq (Cell.Bool false) (Cell.Bool true) h = absurd (true≢false (sym h))
same_cell_eq (Cell.Bool false) (Cell.Bool false) h = refl

-- the cell of a value that is a given cell
pub value_is : (d : Cell) (v : Value) → option_map_or (same_cell d) (cell_in v) false ≡ true → cell_in v ≡ Some d
value_is d v h = at (cell_in v) h
  where
    at : (o : Option Cell) → option_map_or (same_cell d) o false ≡ true → o ≡ Some d
    at None g = absurd (true≢false (sym g))
    at (Some x) g = ap Some (sym (same_cell_eq d x g))

-- values that tie are the same cell
pub value_tied : (v w : Value) → is_eq (value_cmp v w) ≡ true → cell_in v ≡ cell_in w
value_tied Value.Least Value.Least h = refl
value_tied Value.Least (Value.Int b) h = absurd (true≢false (sym h))
value_tied Value.Least (Value.Text b) h = absurd (true≢false (sym h))
value_tied Value.Least (Value.Bool b) h = absurd (true≢false (sym h))
value_tied Value.Least Value.Greatest h = absurd (true≢false (sym h))
value_tied (Value.Int a) Value.Least h = absurd (true≢false (sym h))
value_tied (Value.Int a) (Value.Int b) h = ap (λ n. Some (Cell.Int n)) ((signed_Decides a b).0 h)
value_tied (Value.Int a) (Value.Text b) h = absurd (true≢false (sym h))
value_tied (Value.Int a) (Value.Bool b) h = absurd (true≢false (sym h))
value_tied (Value.Int a) Value.Greatest h = absurd (true≢false (sym h))
value_tied (Value.Text a) Value.Least h = absurd (true≢false (sym h))
value_tied (Value.Text a) (Value.Int b) h = absurd (true≢false (sym h))
value_tied (Value.Text a) (Value.Text b) h = ap (λ t. Some (Cell.Text t)) ((bytes_eq-Decides a.items b.items).0 (sym (is_eq-slice_cmp a.items b.items) ∙ h))
value_tied (Value.Text a) (Value.Bool b) h = absurd (true≢false (sym h))
value_tied (Value.Text a) Value.Greatest h = absurd (true≢false (sym h))
value_tied (Value.Bool a) Value.Least h = absurd (true≢false (sym h))
value_tied (Value.Bool a) (Value.Int b) h = absurd (true≢false (sym h))
value_tied (Value.Bool a) (Value.Text b) h = absurd (true≢false (sym h))
value_tied (Value.Bool true) (Value.Bool true) h = refl
value_tied (Value.Bool true) (Value.Bool false) h = absurd (true≢false (sym h))
value_tied (Value.Bool false) (Value.Bool true) h = absurd (true≢false (sym h))
value_tied (Value.Bool false) (Value.Bool false) h = refl
value_tied (Value.Bool a) Value.Greatest h = absurd (true≢false (sym h))
value_tied Value.Greatest Value.Least h = absurd (true≢false (sym h))
value_tied Value.Greatest (Value.Int b) h = absurd (true≢false (sym h))
value_tied Value.Greatest (Value.Text b) h = absurd (true≢false (sym h))
value_tied Value.Greatest (Value.Bool b) h = absurd (true≢false (sym h))
value_tied Value.Greatest Value.Greatest h = refl

-- one cell's values tie
pub value_ties : (d : Cell) (v w : Value) → cell_in v ≡ Some d → cell_in w ≡ Some d → is_eq (value_cmp v w) ≡ true
value_ties d Value.Least w p q = cc
value_ties d (Value.Int a) Value.Least p q = cc
value_ties d (Value.Text a) Value.Least p q = cc
value_ties d (Value.Bool a) Value.Least p q = cc
value_ties d Value.Greatest w p q = cc
value_ties d (Value.Int a) Value.Greatest p q = cc
value_ties d (Value.Text a) Value.Greatest p q = cc
value_ties d (Value.Bool a) Value.Greatest p q = cc
value_ties d (Value.Int a) (Value.Int b) p q = let e : a ≡ b = cc in (signed_Decides a b).1 e
value_ties d (Value.Int a) (Value.Text b) p q = cc
value_ties d (Value.Int a) (Value.Bool b) p q = cc
value_ties d (Value.Text a) (Value.Int b) p q = cc
value_ties d (Value.Text a) (Value.Text b) p q = let e : a.items ≡ b.items = cc in is_eq-slice_cmp a.items b.items ∙ (bytes_eq-Decides a.items b.items).1 e
value_ties d (Value.Text a) (Value.Bool b) p q = cc
value_ties d (Value.Bool a) (Value.Int b) p q = cc
value_ties d (Value.Bool a) (Value.Text b) p q = cc
value_ties d (Value.Bool a) (Value.Bool b) p q = let e : a ≡ b = cc in subst (λ x. is_eq (bool_cmp a x) ≡ true) e (self a)
  where
    self : (a : Bool) → is_eq (bool_cmp a a) ≡ true
    self true = refl
    self false = refl

-- places that tie are of the same cell, and one cell's places tie
then_parts : (o p : Ordering) → is_eq (ordering_then o p) ≡ true → (is_eq o ≡ true) × (is_eq p ≡ true)
then_parts Less p h = absurd (true≢false (sym h))
then_parts Equal p h = (refl, h)
then_parts Greater p h = absurd (true≢false (sym h))

then_from : (o p : Ordering) → is_eq o ≡ true → is_eq p ≡ true → is_eq (ordering_then o p) ≡ true
then_from Less p h g = absurd (true≢false (sym h))
then_from Equal p h g = g
then_from Greater p h g = absurd (true≢false (sym h))

nat_tied : (a b : ℕ) → is_eq (nat_cmp a b) ≡ true → a ≡ b
nat_tied a b h = eqb-true a b (sym (unsigned_tied a b) ∙ h)

nat_ties : (a b : ℕ) → a ≡ b → is_eq (nat_cmp a b) ≡ true
nat_ties a b e = unsigned_tied a b ∙ eq-eqb a b e

module _ (i : ℕ) (d : Cell) where
  place_tied : (a b : Place) → is_eq (place_cmp a b) ≡ true → is_place i d a ≡ is_place i d b
  place_tied a b h =
      let r : (is_eq (value_cmp a.value b.value) ≡ true) × (is_eq (nat_cmp a.id b.id) ≡ true) = then_parts (value_cmp a.value b.value) (nat_cmp a.id b.id) h in
      alike (cell_in a.value) (cell_in b.value) a.id b.id (value_tied a.value b.value r.0) (nat_tied a.id b.id r.1)
    where
      alike : (v w : Option Cell) (i' j : ℕ) → v ≡ w → i' ≡ j → (option_map_or (same_cell d) v false && (i == i')) ≡ (option_map_or (same_cell d) w false && (i == j))
      alike v w i' j r s = λ x. option_map_or (same_cell d) (r x) false && (i == s x)

  abbrev pub Parts : Place → Type 0
  Parts p = (cell_in p.value ≡ Some d) × (i ≡ p.id)

  pub place_parts : (p : Place) → is_place i d p ≡ true → Parts p
  place_parts p h =
      let z : (option_map_or (same_cell d) (cell_in p.value) false ≡ true) × ((i == p.id) ≡ true) = and_parts (option_map_or (same_cell d) (cell_in p.value) false) (i == p.id) h in
      (value_is d p.value z.0, eqb-true i p.id z.1)

  place_ties : (a b : Place) → is_place i d a ≡ true → is_place i d b ≡ true → is_eq (place_cmp a b) ≡ true
  place_ties a b h k =
      let p : Parts a = place_parts a h in
      let q : Parts b = place_parts b k in
      then_from (value_cmp a.value b.value) (nat_cmp a.id b.id) (value_ties d a.value b.value p.0 q.0) (nat_ties a.id b.id (sym p.1 ∙ q.1))

  -- of a place of the cell, another ties with it exactly if it is of the cell too
  ties_with : (k p : Place) → is_place i d k ≡ true → is_eq (place_cmp k p) ≡ is_place i d p
  ties_with k p h = at (tested (is_eq (place_cmp k p))) (tested (is_place i d p))
    where
      at : Tested (is_eq (place_cmp k p)) → Tested (is_place i d p) → is_eq (place_cmp k p) ≡ is_place i d p
      at (inl t) u = t ∙ sym h ∙ place_tied k p t
      at (inr t) (inl u) = absurd (true≢false (sym (place_ties k p h u) ∙ t))
      at (inr t) (inr u) = t ∙ sym u

  tied_by : (p k : Place) → is_place i d k ≡ true → is_eq (place_cmp p k) ≡ is_place i d p
  tied_by p k h = at (tested (is_eq (place_cmp p k))) (tested (is_place i d p))
    where
      at : Tested (is_eq (place_cmp p k)) → Tested (is_place i d p) → is_eq (place_cmp p k) ≡ is_place i d p
      at (inl t) u = t ∙ sym h ∙ sym (place_tied p k t)
      at (inr t) (inl u) = absurd (true≢false (sym (place_ties p k u h) ∙ t))
      at (inr t) (inr u) = t ∙ sym u

  contains_here : (ps : List Place) (k : Place) → is_place i d k ≡ true → list_any (λ x. is_eq (place_cmp k x)) ps ≡ has_place ps i d
  contains_here [] k h = refl
  contains_here (p ∷ ps) k h = λ x. ties_with k p h x || contains_here ps k h x

  found : (ps : List Place) → has_place ps i d ≡ true → (k : Place) × (is_place i d k ≡ true)
  found [] h = absurd (true≢false (sym h))
  found (p ∷ ps) h = at (tested (is_place i d p)) (found ps)
    where
      at : Tested (is_place i d p) → (has_place ps i d ≡ true → (k : Place) × (is_place i d k ≡ true)) → (k : Place) × (is_place i d k ≡ true)
      at (inl t) f = (p, t)
      at (inr t) f = f (rw t at h)

  -- after a place is added or taken out
  updated : (ps qs : List Place) (p : Place) (b : Bool)
      → ((q : Place) → list_any (λ x. is_eq (place_cmp q x)) qs ≡ cond (is_eq (place_cmp p q)) b (list_any (λ x. is_eq (place_cmp q x)) ps))
      → has_place qs i d ≡ cond (is_place i d p) b (has_place ps i d)
  updated ps qs p b f = at (tested (is_place i d p)) (tested (has_place ps i d)) (tested (has_place qs i d))
    where
      by : (k : Place) → is_place i d k ≡ true → has_place qs i d ≡ cond (is_place i d p) b (has_place ps i d)
      by k h = sym (contains_here qs k h) ∙ f k ∙ λ x. cond (tied_by p k h x) b (contains_here ps k h x)

      at : Tested (is_place i d p) → Tested (has_place ps i d) → Tested (has_place qs i d)
          → has_place qs i d ≡ cond (is_place i d p) b (has_place ps i d)
      at (inl t) u v = by p t
      at (inr t) (inl u) v = let k : (k : Place) × (is_place i d k ≡ true) = found ps u in by k.0 k.1
      at (inr t) (inr u) (inl v) = let k : (k : Place) × (is_place i d k ≡ true) = found qs v in by k.0 k.1
      at (inr t) (inr u) (inr v) = v ∙ sym u ∙ sym (ap (λ x. cond x b (has_place ps i d)) t)

  pub added : (ps qs : List Place) (p : Place)
      → ((q : Place) → list_any (λ x. is_eq (place_cmp q x)) qs ≡ cond (is_eq (place_cmp p q)) true (list_any (λ x. is_eq (place_cmp q x)) ps))
      → has_place qs i d ≡ (is_place i d p || has_place ps i d)
  added ps qs p f = updated ps qs p true f ∙ at (is_place i d p)
    where
      at : (b : Bool) → cond b true (has_place ps i d) ≡ (b || has_place ps i d)
      at true = refl
      at false = refl

  pub dropped : (ps qs : List Place) (p : Place)
      → ((q : Place) → list_any (λ x. is_eq (place_cmp q x)) qs ≡ cond (is_eq (place_cmp p q)) false (list_any (λ x. is_eq (place_cmp q x)) ps))
      → has_place qs i d ≡ (not (is_place i d p) && has_place ps i d)
  dropped ps qs p f = updated ps qs p false f ∙ at (is_place i d p)
    where
      at : (b : Bool) → cond b false (has_place ps i d) ≡ (not b && has_place ps i d)
      at true = refl
      at false = refl
