-- The rows of several entities, in order, are those of the least and then those of the others.
use Rattle.std.proofs.Common.{◌≡◌, ◌⊎◌, ◌↔◌, inl, inr, ◌+◌, ◌<◌, ◌≤◌, ℕ, zero, suc, Bool, true, false, cond, ◌==◌, nat_eq, List, [], ◌∷◌, ◌++◌, length, drop, get_or, Contains, Some, None, Option, IfSome, refl, sym, ◌∙◌, subst, ap, arith, true≢false, eq-eqb, append-nil, append_assoc, add-one}
use native.Mathlib.Numerals.{unary_clauses}
use Rattle.std.specs.List.{AllByRecursion}
use Rattle.std.specs.List.Sorted.{IsStrictlyIncreasing}
use Rattle.std.proofs.lemmas.Bool.{eqb-true, ne_eqb, or_cases}
use Rattle.std.proofs.lemmas.List.Folds.{list_any_at}
use Rattle.sqlite_rules.proofs.ListLemmas.{all_from, all_has, some_has}
use Rattle.sqlite_trees.proofs.ListLemmas.{filter_none}
use Rattle.hib_base.specs.Tables.{Tables, is_first, in_order}
use Rattle.hib_base.proofs.Tables.{Tested, tested}
use Rattle.hib_outside.specs.Keeps.{is_listed, rows_of}
use Rattle.hib_outside.proofs.Orders.{precedes, rest_in_order}
use Rattle.hib_sqlite_rows.specs.Types.{Key, Row}
use Rattle.sqlite_value.specs.Order.{Row as SqlRow}
use Rattle.hib_sqlite_rows.specs.Told.{Told, rows_in}
use Rattle.hib_sqlite_rows.specs.Shown.{ShowsEntity}
use Rattle.hib_sqlite_rows.proofs.Queries.{later_before}

above : (n : ℕ) (es : List ℕ) (entity : ℕ) → AllByRecursion (λ m. n < m) es → is_listed entity es ≡ true → n < entity
above n es entity all h =
    let it = some_has (λ m. nat_eq m entity) es h in
    let low : n < it.0 = all_has (λ m. n < m) es it.0 all it.1 in
    let same : it.0 ≡ entity = eqb-true it.0 entity it.2 in
    omega arith

none_later : (n : ℕ) (e : Key × Row) (es : Tables) → n < e.0.entity → is_first e.0 es ≡ true → in_order es ≡ true → rows_in n es ≡ []
none_later n e es low f o = filter_none (λ (x : Key × Row). x.0.entity == n) es (all_from (λ (x : Key × Row). (x.0.entity == n) ≡ false) es (λ x h. other x (precedes e.0 x.0 (later_before e.0 es f o x h)).by))
  where
    other : (x : Key × Row) → (e.0.entity < x.0.entity) ⊎ ((e.0.entity ≡ x.0.entity) × (e.0.id < x.0.id)) → (x.0.entity == n) ≡ false
    other x (inl b) = ne_eqb x.0.entity n (λ same. absurd (omega arith))
    other x (inr b) = ne_eqb x.0.entity n (λ same. absurd (let g : e.0.entity ≡ x.0.entity = b.0 in omega arith))

turned : (a b : ℕ) → (b == a) ≡ false → nat_eq a b ≡ false
turned a b h = ne_eqb a b (λ same. true≢false (sym (eq-eqb b a (sym same)) ∙ h))

least_first : (n : ℕ) (es : List ℕ) (t : Tables) → in_order t ≡ true → AllByRecursion (λ m. n < m) es → rows_of (n ∷ es) t ≡ rows_in n t ++ rows_of es t
least_first n es [] o all = refl
least_first n es (e ∷ t) o all = at (tested (e.0.entity == n)) (tested (is_listed e.0.entity es)) (least_first n es t (rest_in_order e t o).1 all)
  where
    at : Tested (e.0.entity == n) → Tested (is_listed e.0.entity es) → rows_of (n ∷ es) t ≡ rows_in n t ++ rows_of es t → rows_of (n ∷ es) (e ∷ t) ≡ rows_in n (e ∷ t) ++ rows_of es (e ∷ t)
    at (inl p) (inl q) rest = absurd (let low : n < e.0.entity = above n es e.0.entity all q in let same : e.0.entity ≡ n = eqb-true e.0.entity n p in omega arith)
    at (inl p) (inr q) rest = let r : nat_eq n e.0.entity ≡ true = eq-eqb n e.0.entity (sym (eqb-true e.0.entity n p)) in rw (p, q, r) (ap (λ l. e ∷ l) rest)
    at (inr p) (inl q) rest =
        let none : rows_in n t ≡ [] = none_later n e t (above n es e.0.entity all q) (rest_in_order e t o).0 (rest_in_order e t o).1 in
        let r : nat_eq n e.0.entity ≡ false = turned n e.0.entity p in
        rw (p, q, r, none) (ap (λ l. e ∷ l) (rest ∙ ap (λ l. l ++ rows_of es t) none))
    at (inr p) (inr q) rest = let r : nat_eq n e.0.entity ≡ false = turned n e.0.entity p in rw (p, q, r) rest

-- ---- numbers that rise

rest_rises : (x : ℕ) (xs : List ℕ) → IsStrictlyIncreasing (x ∷ xs) → IsStrictlyIncreasing xs
rest_rises x xs up = λ k low. rw add-one (simp unary_clauses at (up (suc k) (omega arith)))

above_first : (n x : ℕ) (xs : List ℕ) → n ≤ x → IsStrictlyIncreasing (x ∷ xs) → AllByRecursion (λ m. n < m) xs
above_first n x [] low up = tt
above_first n x (y ∷ ys) low up = let next : x < y = up 0 (omega arith) in (omega arith, above_first n y ys (omega arith) (rest_rises x (y ∷ ys) up))

pub next_rows : (xs : List ℕ) (i d : ℕ) (t : Tables) → IsStrictlyIncreasing xs → in_order t ≡ true → i < length xs → rows_of (drop i xs) t ≡ rows_in (get_or xs i d) t ++ rows_of (drop (suc i) xs) t
next_rows [] i d t up o low = absurd (omega arith)
next_rows (x ∷ xs) zero d t up o low = least_first x xs t o (above_first x x xs (omega arith) up)
next_rows (x ∷ xs) (suc i) d t up o low = next_rows xs i d t (rest_rises x xs up) o (omega arith)

pub no_rows : (t : Tables) → rows_of [] t ≡ []
no_rows [] = refl
no_rows (e ∷ es) = no_rows es

-- ---- lists of the same numbers

listed_from : (xs : List ℕ) (n : ℕ) → Contains xs n → is_listed n xs ≡ true
listed_from xs n h = list_any_at (λ m. nat_eq m n) xs h.0 n h.1 (eq-eqb (get_or xs h.0 n) n h.2)

listed_is : (xs : List ℕ) (n : ℕ) → is_listed n xs ≡ true → Contains xs n
listed_is [] n h = absurd (true≢false (sym h))
listed_is (x ∷ xs) n h = elim (or_cases (nat_eq x n) (is_listed n xs) h) [
  | inl here ↦ (0, omega arith, eqb-true x n here)
  | inr later ↦ (let it = listed_is xs n later in (suc it.0, omega arith, it.2))
]

same_test : (a b : Bool) → (a ≡ true → b ≡ true) → (b ≡ true → a ≡ true) → a ≡ b
same_test true b f g = sym (f refl)
same_test false true f g = g refl
same_test false false f g = refl

same_listed : (xs ys : List ℕ) (n : ℕ) → (Contains xs n ↔ Contains ys n) → is_listed n xs ≡ is_listed n ys
same_listed xs ys n same = same_test (is_listed n xs) (is_listed n ys) (λ h. listed_from ys n (same.0 (listed_is xs n h))) (λ h. listed_from xs n (same.1 (listed_is ys n h)))

pub same_rows : (xs ys : List ℕ) (t : Tables) → ((n : ℕ) → Contains xs n ↔ Contains ys n) → rows_of xs t ≡ rows_of ys t
same_rows xs ys [] same = refl
same_rows xs ys (e ∷ es) same = (λ i. cond (same_listed xs ys e.0.entity (same e.0.entity) i) (e ∷ rows_of xs es) (rows_of xs es)) ∙ ap (λ l. cond (is_listed e.0.entity ys) (e ∷ l) l) (same_rows xs ys es same)

-- ---- a list that is read so far

pub more_rows : (o p : Option Told) (numbers : List ℕ) (i d : ℕ) (list after : Tables) (rows : List SqlRow) → o ≡ p → IfSome p (λ t. in_order t.now ≡ true) → IsStrictlyIncreasing numbers → i < length numbers
    → IfSome o (λ t. ShowsEntity rows t.now (get_or numbers i d)) → ((t : Tables) → ShowsEntity rows t (get_or numbers i d) → after ≡ list ++ rows_in (get_or numbers i d) t)
    → IfSome p (λ t. rows_of numbers t.now ≡ list ++ rows_of (drop i numbers) t.now) → IfSome p (λ t. rows_of numbers t.now ≡ after ++ rows_of (drop (i + 1) numbers) t.now)
more_rows o None numbers i d list after rows same ordered up low shows adds so_far = tt
more_rows o (Some t) numbers i d list after rows same ordered up low shows adds so_far =
    let shown : ShowsEntity rows t.now (get_or numbers i d) = subst (λ (p : Option Told). IfSome p (λ t. ShowsEntity rows t.now (get_or numbers i d))) same shows in
    rw add-one (so_far ∙ ap (λ l. list ++ l) (next_rows numbers i d t.now up ordered low) ∙ sym (append_assoc list (rows_in (get_or numbers i d) t.now) (rows_of (drop (suc i) numbers) t.now))
    ∙ ap (λ l. l ++ rows_of (drop (suc i) numbers) t.now) (sym (adds t.now shown)))

pub all_rows : (o : Option Told) (numbers entities : List ℕ) (i : ℕ) (list result : Tables) → drop i numbers ≡ [] → ((n : ℕ) → Contains numbers n ↔ Contains entities n) → result ≡ list
    → IfSome o (λ t. rows_of numbers t.now ≡ list ++ rows_of (drop i numbers) t.now) → IfSome o (λ t. result ≡ rows_of entities t.now)
all_rows None numbers entities i list result over same is so_far = tt
all_rows (Some t) numbers entities i list result over same is so_far =
    is ∙ sym (so_far ∙ ap (λ l. list ++ l) (ap (λ l. rows_of l t.now) over ∙ no_rows t.now) ∙ append-nil list) ∙ same_rows numbers entities t.now same
