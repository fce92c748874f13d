-- What stands at the place of a key, and what tables are when it changes there.
use Rattle.std.proofs.Common.{◌≡◌, inl, inr, ℕ, zero, suc, ◌+◌, ◌<◌, Bool, true, cond, [], ◌∷◌, length, set, get_or, Some, None, Option, Ok, Err, Result, refl, sym, ap, ◌∙◌, subst, arith, slice_get}
use Rattle.std.specs.List.{insert, remove}
use Rattle.hib_base.specs.Keys.{same_key, is_before}
use Rattle.hib_base.specs.Tables.{Tables, row_at, with_row, without_row, is_first, in_order}
use Rattle.hib_base.proofs.Tables.{same_key_eq, Tested, tested}
use Rattle.hib_outside.specs.Types.{Key, Row}
use Rattle.hib_outside.specs.Places.{one_further, place_in}
use Rattle.hib_outside.proofs.Orders.{rest_in_order, row_at_before, without_row_before}

-- the tables with a row placed there
abbrev pub placed : Tables → Key → Row → Result ℕ ℕ → Tables
placed t k r (Ok i) = set t i (k, r)
placed t k r (Err i) = insert t i (k, r)

abbrev pub taken_out : Tables → Result ℕ ℕ → Tables
taken_out t (Ok i) = remove t i
taken_out t (Err i) = t

abbrev pub row_of : Option (Key × Row) → Option Row
row_of None = None
row_of (Some e) = Some e.1

abbrev pub row_there : Tables → Result ℕ ℕ → Option Row
row_there t (Ok i) = row_of (slice_get t i)
row_there t (Err i) = None

placed_further : (e : Key × Row) (es : Tables) (k : Key) (r : Row) (p : Result ℕ ℕ) → placed (e ∷ es) k r (one_further p) ≡ e ∷ placed es k r p
placed_further e es k r (Ok i) = refl
placed_further e es k r (Err i) = refl

taken_out_further : (e : Key × Row) (es : Tables) (p : Result ℕ ℕ) → taken_out (e ∷ es) (one_further p) ≡ e ∷ taken_out es p
taken_out_further e es (Ok i) = refl
taken_out_further e es (Err i) = refl

row_there_further : (e : Key × Row) (es : Tables) (p : Result ℕ ℕ) → row_there (e ∷ es) (one_further p) ≡ row_there es p
row_there_further e es (Ok i) = refl
row_there_further e es (Err i) = refl

pub with_row_placed : (t : Tables) (k : Key) (r : Row) → with_row t k r ≡ placed t k r (place_in t k)
with_row_placed [] k r = refl
with_row_placed (e ∷ es) k r = at (tested (same_key e.0 k)) (tested (is_before k e.0)) (with_row_placed es k r)
  where
    at : Tested (same_key e.0 k) → Tested (is_before k e.0) → with_row es k r ≡ placed es k r (place_in es k) → with_row (e ∷ es) k r ≡ placed (e ∷ es) k r (place_in (e ∷ es) k)
    at (inl s) b h = rw s refl
    at (inr s) (inl b) h = rw (s, b) refl
    at (inr s) (inr b) h = rw (s, b) (ap (λ xs. e ∷ xs) h ∙ sym (placed_further e es k r (place_in es k)))

pub row_at_place : (t : Tables) (k : Key) → in_order t ≡ true → row_at t k ≡ row_there t (place_in t k)
row_at_place [] k o = refl
row_at_place (e ∷ es) k o =
    let p : (is_first e.0 es ≡ true) × (in_order es ≡ true) = rest_in_order e es o in
    at (tested (same_key e.0 k)) (tested (is_before k e.0)) (row_at_place es k p.1)
  where
    at : Tested (same_key e.0 k) → Tested (is_before k e.0) → row_at es k ≡ row_there es (place_in es k) → row_at (e ∷ es) k ≡ row_there (e ∷ es) (place_in (e ∷ es) k)
    at (inl s) b h = rw s refl
    at (inr s) (inl b) h = row_at_before (e ∷ es) k o b ∙ (rw (s, b) refl)
    at (inr s) (inr b) h = rw (s, b) (h ∙ sym (row_there_further e es (place_in es k)))

pub without_row_taken_out : (t : Tables) (k : Key) → in_order t ≡ true → without_row t k ≡ taken_out t (place_in t k)
without_row_taken_out [] k o = refl
without_row_taken_out (e ∷ es) k o =
    let p : (is_first e.0 es ≡ true) × (in_order es ≡ true) = rest_in_order e es o in
    at (tested (same_key e.0 k)) (tested (is_before k e.0)) p (without_row_taken_out es k p.1)
  where
    at : Tested (same_key e.0 k) → Tested (is_before k e.0) → (is_first e.0 es ≡ true) × (in_order es ≡ true) → without_row es k ≡ taken_out es (place_in es k)
        → without_row (e ∷ es) k ≡ taken_out (e ∷ es) (place_in (e ∷ es) k)
    at (inl s) b p h = rw s (without_row_before es k p.1 (subst (λ j. is_first j es ≡ true) (same_key_eq e.0 k s) p.0))
    at (inr s) (inl b) p h = without_row_before (e ∷ es) k o b ∙ (rw (s, b) refl)
    at (inr s) (inr b) p h = rw (s, b) (ap (λ xs. e ∷ xs) h ∙ sym (taken_out_further e es (place_in es k)))

-- a place in the rest after n rows, as a place among all
abbrev pub further : ℕ → Result ℕ ℕ → Result ℕ ℕ
further n (Ok i) = Ok (n + i)
further n (Err i) = Err (n + i)

pub with_row_ok : (t s : Tables) (k : Key) (r : Row) (i : ℕ) → s ≡ t → Ok i ≡ place_in s k → set t i (k, r) ≡ with_row t k r
with_row_ok t s k r i e h = ap (placed t k r) (h ∙ ap (λ x. place_in x k) e) ∙ sym (with_row_placed t k r)

pub with_row_err : (t s new : Tables) (k : Key) (r : Row) (i : ℕ) (b : Bool) → s ≡ t → Err i ≡ place_in s k → b ≡ true → new ≡ cond b (insert t i (k, r)) t → new ≡ with_row t k r
with_row_err t s new k r i b e h y n =
    n ∙ ap (λ c. cond c (insert t i (k, r)) t) y ∙ ap (placed t k r) (h ∙ ap (λ x. place_in x k) e) ∙ sym (with_row_placed t k r)

pub without_row_ok : (t s new : Tables) (k : Key) (i : ℕ) → in_order t ≡ true → s ≡ t → Ok i ≡ place_in s k → new ≡ remove t i → new ≡ without_row t k
without_row_ok t s new k i o e h n = n ∙ ap (taken_out t) (h ∙ ap (λ x. place_in x k) e) ∙ sym (without_row_taken_out t k o)

pub without_row_err : (t s : Tables) (k : Key) (i : ℕ) → in_order t ≡ true → s ≡ t → Err i ≡ place_in s k → t ≡ without_row t k
without_row_err t s k i o e h = ap (taken_out t) (h ∙ ap (λ x. place_in x k) e) ∙ sym (without_row_taken_out t k o)

row_there_within : (t : Tables) (i : ℕ) (d : Key × Row) → i < length t → row_there t (Ok i) ≡ Some (get_or t i d).1
row_there_within [] i d h = absurd (omega arith)
row_there_within (e ∷ es) zero d h = refl
row_there_within (e ∷ es) (suc i) d h = row_there_within es i d (omega arith)

pub row_at_ok : (t : Tables) (k : Key) (i : ℕ) (d : Key × Row) → in_order t ≡ true → i < length t → Ok i ≡ place_in t k → Some (get_or t i d).1 ≡ row_at t k
row_at_ok t k i d o l h = sym (row_there_within t i d l) ∙ ap (row_there t) h ∙ sym (row_at_place t k o)

pub row_at_err : (t : Tables) (k : Key) (i : ℕ) → in_order t ≡ true → Err i ≡ place_in t k → None ≡ row_at t k
row_at_err t k i o h = ap (row_there t) h ∙ sym (row_at_place t k o)
