-- Rows that are parted at a place: what is there, and what a change there leaves.
use Rattle.std.proofs.Common.{◌≡◌, inl, inr, ℕ, suc, ◌-◌, ◌<◌, ◌≤◌, Bool, true, false, not, [], ◌∷◌, ◌++◌, length, reverse, get_or, Ok, Err, Result, refl, sym, ap, ◌∙◌, subst, arith, append_assoc}
use Rattle.std.proofs.lemmas.List.{reverse-append, length-reverse, get_or-reverse}
use Rattle.hib_base.specs.Keys.{same_key, is_before}
use Rattle.hib_base.specs.Tables.{Tables, with_row, without_row, is_first, in_order}
use Rattle.hib_base.proofs.Tables.{same_key_eq, Tested, tested}
use Rattle.hib_outside.specs.Types.{Key, Row}
use Rattle.hib_outside.specs.Places.{one_further, place_in}
use Rattle.hib_outside.specs.Parted.{joined, first_before, ends_before, first_same, unless_first}
use Rattle.hib_outside.proofs.Orders.{rest_in_order, without_row_before}
use Rattle.hib_outside.proofs.Searches.{place_last, comes_after}

-- the last row of one list becomes that of the other
pub moved : (a b : Tables) (e : Key × Row) → joined (a ++ e ∷ []) b ≡ joined a (b ++ e ∷ [])
moved a b e = append_assoc a (e ∷ []) (reverse b) ∙ ap (λ x. a ++ x) (sym (reverse-append b (e ∷ [])))

pub moved_ahead : (a left b more : Tables) (e : Key × Row) → a ≡ left ++ e ∷ [] → more ≡ b ++ e ∷ [] → joined left more ≡ joined a b
moved_ahead a left b more e p q = ap (joined left) q ∙ sym (moved left b e) ∙ ap (λ x. joined x b) (sym p)

pub moved_behind : (a left b more : Tables) (e : Key × Row) → a ≡ left ++ e ∷ [] → more ≡ b ++ e ∷ [] → joined more left ≡ joined b a
moved_behind a left b more e p q = ap (λ x. joined x left) q ∙ moved b left e ∙ ap (joined b) (sym p)

ends_with : (t : Tables) (e : Key × Row) (k : Key) → ends_before (t ++ e ∷ []) k ≡ is_before e.0 k
ends_with t e k = ap (λ x. first_before x k) (reverse-append t (e ∷ []))

pub moved_last : (a left b more : Tables) (e : Key × Row) (k : Key) → a ≡ left ++ e ∷ [] → more ≡ b ++ e ∷ [] → ends_before more k ≡ ends_before a k
moved_last a left b more e k p q = ap (λ x. ends_before x k) q ∙ ends_with b e k ∙ sym (ap (λ x. ends_before x k) p ∙ ends_with left e k)

-- the last row
first_at : (t : Tables) (k : Key) (d : Key × Row) → 0 < length t → first_before t k ≡ is_before (get_or t 0 d).0 k
first_at [] k d h = absurd (omega arith)
first_at (e ∷ es) k d h = refl

last_place : (t : Tables) (d : Key × Row) → 0 < length t → get_or (reverse t) 0 d ≡ get_or t (length t - 1) d
last_place t d h = get_or-reverse t 0 d h ∙ ap (λ i. get_or t i d) (omega arith)

pub last_at : (t : Tables) (k : Key) (d : Key × Row) → 0 < length t → is_before (get_or t (length t - 1) d).0 k ≡ ends_before t k
last_at t k d h = sym (first_at (reverse t) k d (omega (arith, length-reverse t)) ∙ ap (λ e. is_before e.0 k) (last_place t d h))

pub none_last : (t : Tables) (k : Key) → length t ≤ 0 → false ≡ ends_before t k
none_last [] k h = refl
none_last (e ∷ es) k h = absurd (omega arith)

pub none_placed : (t : Tables) (k : Key) → length t ≤ 0 → place_in t k ≡ Err (length t)
none_placed [] k h = refl
none_placed (e ∷ es) k h = absurd (omega arith)

-- the key belongs behind rows of which the last comes before it
pub ended : (t : Tables) (k : Key) → in_order t ≡ true → 0 < length t → ends_before t k ≡ true → place_in t k ≡ Err (length t)
ended [] k o l h = absurd (omega arith)
ended (e ∷ es) k o l h =
    place_last (e ∷ es) k (length (e ∷ es) - 1) e o (omega arith) (last_at (e ∷ es) k e l ∙ h)

-- rows before a place are in order if all are
pub front_in_order : (f s : Tables) → in_order (f ++ s) ≡ true → in_order f ≡ true
front_in_order [] s o = refl
front_in_order (e ∷ []) s o = refl
front_in_order (e ∷ g ∷ f) s o =
    let p : (is_before e.0 g.0 ≡ true) × (in_order (g ∷ (f ++ s)) ≡ true) = rest_in_order e (g ∷ (f ++ s)) o in
    rw (p.0) (front_in_order (g ∷ f) s p.1)

back_in_order : (f s : Tables) → in_order (f ++ s) ≡ true → in_order s ≡ true
back_in_order [] s o = o
back_in_order (e ∷ f) s o = let p : (is_first e.0 (f ++ s) ≡ true) × (in_order (f ++ s) ≡ true) = rest_in_order e (f ++ s) o in back_in_order f s p.1

-- a key that belongs behind some rows comes after each of them
abbrev IsPast : Key × Row → Tables → Key → Type 0
IsPast e f k = (same_key e.0 k ≡ false) × ((is_before k e.0 ≡ false) × (place_in f k ≡ Err (length f)))

nearer : (p : Result ℕ ℕ) (n : ℕ) → one_further p ≡ Err (suc n) → p ≡ Err n
nearer (Ok i) n h = absurd (cc)
nearer (Err i) n h = cc

past : (e : Key × Row) (f : Tables) (k : Key) → place_in (e ∷ f) k ≡ Err (length (e ∷ f)) → IsPast e f k
past e f k h = at (tested (same_key e.0 k)) (tested (is_before k e.0))
  where
    at : Tested (same_key e.0 k) → Tested (is_before k e.0) → IsPast e f k
    at (inl s) b = let x : Ok 0 ≡ Err (suc (length f)) = sym (rw s refl) ∙ h in absurd (cc)
    at (inr s) (inl b) = let x : Err 0 ≡ Err (suc (length f)) = sym (rw (s, b) refl) ∙ h in absurd (cc)
    at (inr s) (inr b) = (s, (b, nearer (place_in f k) (length f) (sym (rw (s, b) refl) ∙ h)))

with_row_past : (f s : Tables) (k : Key) (r : Row) → place_in f k ≡ Err (length f) → with_row (f ++ s) k r ≡ f ++ with_row s k r
with_row_past [] s k r h = refl
with_row_past (e ∷ f) s k r h =
    let p : IsPast e f k = past e f k h in
    rw (p.0, p.1.0) (ap (λ x. e ∷ x) (with_row_past f s k r p.1.1))

without_row_past : (f s : Tables) (k : Key) → place_in f k ≡ Err (length f) → without_row (f ++ s) k ≡ f ++ without_row s k
without_row_past [] s k h = refl
without_row_past (e ∷ f) s k h =
    let p : IsPast e f k = past e f k h in
    rw (p.0) (ap (λ x. e ∷ x) (without_row_past f s k p.1.1))

-- a key that no row comes before
with_row_first : (s : Tables) (k : Key) (r : Row) → first_before s k ≡ false → with_row s k r ≡ (k, r) ∷ unless_first k s
with_row_first [] k r h = refl
with_row_first (e ∷ s) k r h = at (tested (same_key e.0 k))
  where
    at : Tested (same_key e.0 k) → with_row (e ∷ s) k r ≡ (k, r) ∷ unless_first k (e ∷ s)
    at (inl p) = rw p refl
    at (inr p) = rw (p, comes_after e.0 k p h) refl

without_row_first : (s : Tables) (k : Key) → in_order s ≡ true → first_before s k ≡ false → without_row s k ≡ unless_first k s
without_row_first [] k o h = refl
without_row_first (e ∷ s) k o h =
    let q : (is_first e.0 s ≡ true) × (in_order s ≡ true) = rest_in_order e s o in
    at (tested (same_key e.0 k)) q
  where
    at : Tested (same_key e.0 k) → (is_first e.0 s ≡ true) × (in_order s ≡ true) → without_row (e ∷ s) k ≡ unless_first k (e ∷ s)
    at (inl p) q = rw p (without_row_before s k q.1 (subst (λ j. is_first j s ≡ true) (same_key_eq e.0 k p) q.0))
    at (inr p) q = without_row_before (e ∷ s) k o (comes_after e.0 k p h) ∙ rw p refl

-- the row behind the place, if it is the key's
pub first_same_at : (t : Tables) (k : Key) (d : Key × Row) → 0 < length t → same_key (get_or t (length t - 1) d).0 k ≡ first_same (reverse t) k
first_same_at t k d h = ap (λ e. same_key e.0 k) (sym (last_place t d h)) ∙ sym (at (reverse t) (omega (arith, length-reverse t)))
  where
    at : (xs : Tables) → 0 < length xs → first_same xs k ≡ same_key (get_or xs 0 d).0 k
    at [] l = absurd (omega arith)
    at (e ∷ es) l = refl

pub none_same : (t : Tables) (k : Key) → length t ≤ 0 → false ≡ first_same (reverse t) k
none_same [] k h = refl
none_same (e ∷ es) k h = absurd (omega arith)

pub other_kept : (t : Tables) (k : Key) → false ≡ first_same (reverse t) k → reverse t ≡ unless_first k (reverse t)
other_kept t k h = at (reverse t) h
  where
    at : (xs : Tables) → false ≡ first_same xs k → xs ≡ unless_first k xs
    at [] e = refl
    at (x ∷ xs) e = rw (← e) refl

pub same_dropped : (t left : Tables) (e : Key × Row) (k : Key) → t ≡ left ++ e ∷ [] → first_same (reverse t) k ≡ true → reverse left ≡ unless_first k (reverse t)
same_dropped t left e k p h =
    let q : reverse t ≡ e ∷ reverse left = ap reverse p ∙ reverse-append left (e ∷ []) in
    let s : same_key e.0 k ≡ true = sym (ap (λ x. first_same x k) q) ∙ h in
    sym (ap (unless_first k) q ∙ rw s refl)

-- what is given to a key, or taken from it, where the rows are parted
pub row_set : (t f g b left : Tables) (k : Key) (r : Row) → joined f b ≡ t → place_in f k ≡ Err (length f) → ends_before b k ≡ false → reverse left ≡ unless_first k (reverse b)
    → g ≡ f ++ (k, r) ∷ [] → joined g left ≡ with_row t k r
row_set t f g b left k r j p n u e =
    ap (λ x. x ++ reverse left) e ∙ append_assoc f ((k, r) ∷ []) (reverse left) ∙ ap (λ x. f ++ (k, r) ∷ x) u
    ∙ sym (with_row_past f (reverse b) k r p ∙ ap (λ x. f ++ x) (with_row_first (reverse b) k r n)) ∙ ap (λ x. with_row x k r) j

pub row_taken : (t f b left : Tables) (k : Key) → in_order t ≡ true → joined f b ≡ t → place_in f k ≡ Err (length f) → ends_before b k ≡ false
    → reverse left ≡ unless_first k (reverse b) → joined f left ≡ without_row t k
row_taken t f b left k o j p n u =
    let s : in_order (reverse b) ≡ true = back_in_order f (reverse b) (subst (λ x. in_order x ≡ true) (sym j) o) in
    ap (λ x. f ++ x) u ∙ sym (without_row_past f (reverse b) k p ∙ ap (λ x. f ++ x) (without_row_first (reverse b) k s n)) ∙ ap (λ x. without_row x k) j

pub ended_by : (b : Bool) (t : Tables) (k : Key) → in_order t ≡ true → 0 < length t → b ≡ ends_before t k → not b ≡ false → place_in t k ≡ Err (length t)
ended_by true t k o l e n = ended t k o l (sym e)
ended_by false t k o l e n = absurd (cc)
