-- The cell of a row in a column, and the columns of an index.
use Rattle.std.proofs.Common.{◌≡◌, ℕ, zero, suc, ◌+◌, ◌<◌, ◌≤◌, Bool, true, false, cond, ◌&&◌, ◌==◌, ◌⊎◌, List, [], ◌∷◌, ◌++◌, length, get_or, slice_get, is_some, Some, None, Option, refl, ap, sym, ◌∙◌, subst, inl, inr, arith}
use Rattle.std.specs.Prelude.{nat_lt, slice_set}
use Rattle.std.proofs.lemmas.Option.{slice_get_within, slice_get_read}
use Rattle.std.specs.Option.{option_map_or}
use Rattle.std.proofs.lemmas.Bool.{true≢false, eqb-true, eq-eqb, ne_eqb, lt-ltb, le-ltb, ltb-true, ltb-false}
use Rattle.hib_base.specs.Keys.{same_key}
use Rattle.hib_base.specs.Tables.{Tables}
use Rattle.hib_base.proofs.Tables.{Tested, tested}
use Rattle.hib_journal.specs.Types.{Key, Row, Cell}
use Rattle.hib_journal.specs.Room.{key}
use Rattle.hib_journal.specs.Query.{same_cell}
use Rattle.hib_query_eval.specs.declared.columns.Column.{Column}
use Rattle.hib_query_eval.specs.declared.places.Place.{Place}
use Rattle.hib_query_eval.specs.Places.{cell_in, is_place, has_cell, IsIndexOf, AreIndexes}

eq_sym : (a b : ℕ) → (a == b) ≡ (b == a)
eq_sym a b = at (tested (a == b)) (tested (b == a))
  where
    at : Tested (a == b) → Tested (b == a) → (a == b) ≡ (b == a)
    at (inl p) q = p ∙ sym (eq-eqb b a (sym (eqb-true a b p)))
    at (inr p) (inl q) = absurd (true≢false (sym (eq-eqb a b (sym (eqb-true b a q))) ∙ p))
    at (inr p) (inr q) = p ∙ sym q

module _ (k : Key) (e c i : ℕ) (d : Cell) (o : Option Row) where
  -- a row of another entity has no cell in the column
  pub other_entity : (k.entity ≡ e → ⊥) → false ≡ (same_key k (key e i) && has_cell o c d)
  other_entity n = sym (ap (λ b. (b && (k.id == i)) && has_cell o c d) (ne_eqb k.entity e n))

  pub no_cell : has_cell o c d ≡ false → false ≡ (same_key k (key e i) && has_cell o c d)
  no_cell h = sym (ap (λ b. same_key k (key e i) && b) h ∙ none (same_key k (key e i)))
    where
      none : (b : Bool) → (b && false) ≡ false
      none true = refl
      none false = refl

  pub one_cell : (x : Cell) (p : Place) → k.entity ≡ e → cell_in p.value ≡ Some x → p.id ≡ k.id → has_cell o c d ≡ same_cell d x
      → is_place i d p ≡ (same_key k (key e i) && has_cell o c d)
  one_cell x p ke pv pi h =
      (λ j. option_map_or (same_cell d) (pv j) false && (i == pi j))
      ∙ (λ j. same_cell d x && eq_sym i k.id j)
      ∙ turned (same_cell d x) (k.id == i)
      ∙ sym (λ j. (eq-eqb k.entity e ke j && (k.id == i)) && h j)
    where
      turned : (a b : Bool) → (a && b) ≡ (b && a)
      turned true true = refl
      turned true false = refl
      turned false true = refl
      turned false false = refl

-- ---- columns
some_is : {A : Type 0} (x y : A) → Some x ≡ Some y → x ≡ y
some_is x y h = ap (λ o. or_else o x) h
  where
    or_else : {A : Type 0} → Option A → A → A
    or_else None z = z
    or_else (Some w) z = w

-- a column's places, of which the entity and the column are known
pub one_of : (cs : List Column) (n : ℕ) (c : Column) (e k : ℕ) → n < length cs → c ≡ get_or cs n c → c.entity ≡ e → c.column ≡ k → (t : Tables) → AreIndexes cs t
    → IsIndexOf e k c.places.keys t
one_of cs n c e k l g p q t f =
    subst (λ m. IsIndexOf m k c.places.keys t) p (subst (λ m. IsIndexOf c.entity m c.places.keys t) q (f n c (slice_get_read cs (length cs) n c refl l g)))

-- the first n columns are indexes of one, the others of another
abbrev pub IndexUpTo : List Column → ℕ → Tables → Tables → Type 0
IndexUpTo cs n t u = (m : ℕ) (c : Column) → slice_get cs m ≡ Some c → IsIndexOf c.entity c.column c.places.keys (cond (nat_lt m n) u t)

pub no_columns : (cs : List Column) (t : Tables) → cs ≡ [] → AreIndexes cs t
no_columns cs t e n c h = absurd (true≢false (sym (ap is_some (sym (ap (λ xs. slice_get xs n) e) ∙ h))))

pub none_yet : (cs : List Column) (t u : Tables) → AreIndexes cs t → IndexUpTo cs 0 t u
none_yet cs t u f m c h = subst (λ b. IsIndexOf c.entity c.column c.places.keys (cond b u t)) (sym (le-ltb m 0 (omega arith))) (f m c h)

pub all_done : (cs : List Column) (n : ℕ) (t u : Tables) → length cs ≤ n → IndexUpTo cs n t u → AreIndexes cs u
all_done cs n t u l f m c h =
    let w : m < length cs = slice_get_within cs m c h in
    subst (λ b. IsIndexOf c.entity c.column c.places.keys (cond b u t)) (lt-ltb m n (omega arith)) (f m c h)

set_there : {A : Type 0} (xs : List A) (n m : ℕ) (y x : A) → slice_get (slice_set xs n y) m ≡ Some x → ((m ≡ n) × (x ≡ y)) ⊎ ((m ≡ n → ⊥) × (slice_get xs m ≡ Some x))
set_there [] n m y x h = absurd (true≢false (sym (ap is_some h)))
set_there (z ∷ xs) zero zero y x h = inl (refl, some_is x y (sym h))
set_there (z ∷ xs) zero (suc m) y x h = inr ((λ e. omega (arith, e)), h)
set_there (z ∷ xs) (suc n) zero y x h = inr ((λ e. omega (arith, e)), h)
set_there (z ∷ xs) (suc n) (suc m) y x h = by (set_there xs n m y x h)
  where
    by : ((m ≡ n) × (x ≡ y)) ⊎ ((m ≡ n → ⊥) × (slice_get xs m ≡ Some x)) → ((suc m ≡ suc n) × (x ≡ y)) ⊎ ((suc m ≡ suc n → ⊥) × (slice_get xs m ≡ Some x))
    by (inl p) = inl (ap suc p.0, p.1)
    by (inr p) = inr ((λ e. p.0 (omega (arith, e))), p.1)

pub one_done : (cs : List Column) (n : ℕ) (b c : Column) (t u : Tables) → slice_get cs n ≡ Some b → IndexUpTo cs n t u
    → (IsIndexOf b.entity b.column b.places.keys t → IsIndexOf c.entity c.column c.places.keys u) → IndexUpTo (slice_set cs n c) (n + 1) t u
one_done cs n b c t u at f g m a h = by (set_there cs n m c a h)
  where
    by : ((m ≡ n) × (a ≡ c)) ⊎ ((m ≡ n → ⊥) × (slice_get cs m ≡ Some a)) → IsIndexOf a.entity a.column a.places.keys (cond (nat_lt m (n + 1)) u t)
    by (inl p) =
        let l : nat_lt n n ≡ false = le-ltb n n (omega arith) in
        let k : nat_lt m (n + 1) ≡ true = lt-ltb m (n + 1) (omega (arith, p.0)) in
        let here : IsIndexOf b.entity b.column b.places.keys t = subst (λ v. IsIndexOf b.entity b.column b.places.keys (cond v u t)) l (f n b at) in
        subst (λ v. IsIndexOf a.entity a.column a.places.keys (cond v u t)) (sym k) (subst (λ (z : Column). IsIndexOf z.entity z.column z.places.keys u) (sym p.1) (g here))
    by (inr p) = subst (λ v. IsIndexOf a.entity a.column a.places.keys (cond v u t)) (further (tested (nat_lt m n))) (f m a p.1)
      where
        further : Tested (nat_lt m n) → nat_lt m n ≡ nat_lt m (n + 1)
        further (inl l) = let k : m < n = ltb-true m n l in l ∙ sym (lt-ltb m (n + 1) (omega arith))
        further (inr l) = let k : n ≤ m = ltb-false m n l in l ∙ sym (le-ltb m (n + 1) (omega (arith, p.0)))

-- a column more at the end
pub column_more : (cs : List Column) (c : Column) (t : Tables) → AreIndexes cs t → IsIndexOf c.entity c.column c.places.keys t → AreIndexes (cs ++ c ∷ []) t
column_more [] c t f x zero a h = subst (λ (b : Column). IsIndexOf b.entity b.column b.places.keys t) (some_is c a h) x
column_more [] c t f x (suc n) a h = absurd (true≢false (sym (ap is_some h)))
column_more (b ∷ cs) c t f x zero a h = f zero a h
column_more (b ∷ cs) c t f x (suc n) a h = column_more cs c t (λ m z. f (suc m) z) x n a h
