-- The places of the cells of tables, as rows come and go.
use Rattle.std.specs.Prelude.{unwrap_or}
use Rattle.std.proofs.Common.{◌≡◌, ℕ, zero, suc, ◌+◌, ◌^◌, ◌<◌, Bool, true, false, cond, not, ◌&&◌, ◌||◌, ◌==◌, List, [], ◌∷◌, length, take, drop, get_or, is_some, is_none, Some, None, Option, refl, ap, sym, ◌∙◌, subst, inl, inr, add-one, arith}
use Rattle.std.proofs.lemmas.Bool.{true≢false, and_parts, eqb-true}
use Rattle.std.proofs.lemmas.List.{drop_more}
use Rattle.hib_base.specs.Keys.{same_key, is_before}
use Rattle.hib_base.specs.Tables.{Tables, row_at, is_first, in_order, key_of, row_left, after_change, after_changes, refusal, commit_answer}
use Rattle.hib_base.proofs.Tables.{Tested, tested, same_key_eq, same_key_refl, row_at_change, row_at_other_change}
use Rattle.hib_outside.proofs.Orders.{rest_in_order}
use Rattle.hib_outside.proofs.Searches.{first_before, earlier}
use Rattle.hib_journal.specs.Types.{Key, Row, Cell, Change, Commit}
use Rattle.hib_journal.specs.Room.{key}
use Rattle.hib_query_eval.specs.declared.places.Place.{Place}
use Rattle.std.specs.List.{filter}
use Rattle.hib_query_eval.specs.Enough.{HasEntity}
use Rattle.hib_query_eval.specs.Places.{has_place, has_cell, IsIndexOf}

pub no_rows : (e c : ℕ) (ps : List Place) → ps ≡ [] → IsIndexOf e c ps []
no_rows e c ps n = record {
  cells = λ i d. ap (λ xs. has_place xs i d) n;
  fit = λ i d h. absurd (true≢false (sym h ∙ ap (λ xs. has_place xs i d) n));
}

own_id : (k : Key) (e i : ℕ) → same_key k (key e i) ≡ true → k.id ≡ i
own_id k e i h = eqb-true k.id i ((and_parts (k.entity == e) (k.id == i) h).1)

-- a key's cell in a column is added, if it had no row
pub with_cells : (e c : ℕ) (ps qs : List Place) (t u : Tables) (k : Key) (o : Option Row) → IsIndexOf e c ps t → row_at t k ≡ None → (is_some o ≡ true → k.id < 2 ^ 64)
    → ((i : ℕ) (d : Cell) → has_place qs i d ≡ ((same_key k (key e i) && has_cell o c d) || has_place ps i d))
    → ((q : Key) → row_at u q ≡ cond (same_key k q) o (row_at t q)) → IsIndexOf e c qs u
with_cells e c ps qs t u k o x n l f g = record {
  cells = λ i d. at i d (tested (same_key k (key e i)));
  fit = λ i d h. fits i d (tested (has_place ps i d)) (tested (same_key k (key e i))) (sym (f i d) ∙ h);
}
  where
    or_false : (b : Bool) → (b || false) ≡ b
    or_false true = refl
    or_false false = refl

    at : (i : ℕ) (d : Cell) → Tested (same_key k (key e i)) → has_place qs i d ≡ has_cell (row_at u (key e i)) c d
    at i d (inl s) =
        let none : has_place ps i d ≡ false =
        x.cells i d ∙ ap (λ j. has_cell (row_at t j) c d) (sym (same_key_eq k (key e i) s)) ∙ ap (λ r. has_cell r c d) n in
        f i d ∙ (λ j. (s j && has_cell o c d) || none j) ∙ or_false (has_cell o c d)
        ∙ sym (ap (λ r. has_cell r c d) (g (key e i) ∙ ap (λ b. cond b o (row_at t (key e i))) s))
    at i d (inr s) =
        f i d ∙ (λ j. (s j && has_cell o c d) || x.cells i d j)
        ∙ sym (ap (λ r. has_cell r c d) (g (key e i) ∙ ap (λ b. cond b o (row_at t (key e i))) s))

    fits : (i : ℕ) (d : Cell) → Tested (has_place ps i d) → Tested (same_key k (key e i)) → ((same_key k (key e i) && has_cell o c d) || has_place ps i d) ≡ true
        → i < 2 ^ 64
    fits i d (inl p) s h = x.fit i d p
    fits i d (inr p) (inl s) h = subst (λ m. m < 2 ^ 64) (own_id k e i s) (l (some o (sym (or_false (has_cell o c d)) ∙ sym (λ j. (s j && has_cell o c d) || p j) ∙ h)))
      where
        some : (o : Option Row) → has_cell o c d ≡ true → is_some o ≡ true
        some None g = absurd (true≢false (sym g))
        some (Some r) g = refl
    fits i d (inr p) (inr s) h = absurd (true≢false (sym h ∙ (λ j. (s j && has_cell o c d) || p j)))

-- a key's cell in a column is dropped
pub without_cells : (e c : ℕ) (ps qs : List Place) (t u : Tables) (k : Key) → IsIndexOf e c ps t
    → ((i : ℕ) (d : Cell) → has_place qs i d ≡ (not (same_key k (key e i) && has_cell (row_at t k) c d) && has_place ps i d))
    → ((q : Key) → row_at u q ≡ cond (same_key k q) None (row_at t q)) → IsIndexOf e c qs u
without_cells e c ps qs t u k x f g = record {
  cells = λ i d. at i d (tested (same_key k (key e i)));
  fit = λ i d h. x.fit i d ((and_parts (not (same_key k (key e i) && has_cell (row_at t k) c d)) (has_place ps i d) (sym (f i d) ∙ h)).1);
}
  where
    none : (b : Bool) → (not b && b) ≡ false
    none true = refl
    none false = refl

    at : (i : ℕ) (d : Cell) → Tested (same_key k (key e i)) → has_place qs i d ≡ has_cell (row_at u (key e i)) c d
    at i d (inl s) =
        let there : has_place ps i d ≡ has_cell (row_at t k) c d = x.cells i d ∙ ap (λ j. has_cell (row_at t j) c d) (sym (same_key_eq k (key e i) s)) in
        f i d ∙ (λ j. not (s j && has_cell (row_at t k) c d) && there j) ∙ none (has_cell (row_at t k) c d)
        ∙ sym (ap (λ r. has_cell r c d) (g (key e i) ∙ ap (λ b. cond b None (row_at t (key e i))) s))
    at i d (inr s) =
        f i d ∙ (λ j. not (s j && has_cell (row_at t k) c d) && x.cells i d j)
        ∙ sym (ap (λ r. has_cell r c d) (g (key e i) ∙ ap (λ b. cond b None (row_at t (key e i))) s))

-- the rows without a key's, as a function of keys
without : Tables → Key → Tables
without [] k = []
without (x ∷ xs) k = cond (same_key x.0 k) (without xs k) (x ∷ without xs k)

row_at_without : (t : Tables) (k q : Key) → row_at (without t k) q ≡ cond (same_key k q) None (row_at t q)
unfolding without
row_at_without [] k q = at (same_key k q) None
  where
    at : (b : Bool) (o : Option Row) → o ≡ cond b o o
    at true o = refl
    at false o = refl
row_at_without (x ∷ xs) k q = at (tested (same_key x.0 k)) (tested (same_key x.0 q)) (row_at_without xs k q)
  where
    at : Tested (same_key x.0 k) → Tested (same_key x.0 q) → row_at (without xs k) q ≡ cond (same_key k q) None (row_at xs q)
        → row_at (without (x ∷ xs) k) q ≡ cond (same_key k q) None (row_at (x ∷ xs) q)
    at (inl s) (inl u) h =
        let e : x.0 ≡ k = same_key_eq x.0 k s in
        let v : same_key k q ≡ true = ap (λ j. same_key j q) (sym e) ∙ u in
        rw s (h ∙ (λ j. cond (v j) None (row_at xs q)) ∙ sym (λ j. cond (v j) None (row_at (x ∷ xs) q)))
    at (inl s) (inr u) h = rw (s, u) h
    at (inr s) (inl u) h =
        let v : same_key k q ≡ false = other (tested (same_key k q)) in
        rw (s, u, v) refl
      where
        other : Tested (same_key k q) → same_key k q ≡ false
        other (inl w) =
            let e : k ≡ q = same_key_eq k q w in
            absurd (true≢false (sym u ∙ ap (same_key x.0) (sym e) ∙ s))
        other (inr w) = w
    at (inr s) (inr u) h = rw (s, u) h

row_at_itself : (k : Key) (t : Tables) → row_at (without t k) k ≡ None
row_at_itself k t = row_at_without t k k ∙ ap (λ b. cond b None (row_at t k)) (same_key_refl k)

row_at_after : (c : Change) (t : Tables) (q : Key) → row_at (after_change c t) q ≡ cond (same_key (key_of c) q) (row_left c) (row_at t q)
row_at_after c t q = at (tested (same_key (key_of c) q))
  where
    at : Tested (same_key (key_of c) q) → row_at (after_change c t) q ≡ cond (same_key (key_of c) q) (row_left c) (row_at t q)
    at (inl s) = row_at_change c t q s ∙ sym (ap (λ b. cond b (row_left c) (row_at t q)) s)
    at (inr s) = row_at_other_change c t q s ∙ sym (ap (λ b. cond b (row_left c) (row_at t q)) s)

-- after a change, of which the row that was there and the row that it leaves are given
pub changed : (e c : ℕ) (ps ms qs : List Place) (x : Change) (t : Tables) (k : Key) (a b : Option Row) → k ≡ key_of x → a ≡ row_at t (key_of x) → b ≡ row_left x
    → IsIndexOf e c ps t → (is_some b ≡ true → k.id < 2 ^ 64)
    → ((i : ℕ) (d : Cell) → has_place ms i d ≡ (not (same_key k (key e i) && has_cell a c d) && has_place ps i d))
    → ((i : ℕ) (d : Cell) → has_place qs i d ≡ ((same_key k (key e i) && has_cell b c d) || has_place ms i d))
    → IsIndexOf e c qs (after_change x t)
changed e c ps ms qs x t k a b p q r y l f g =
    with_cells e c ms qs (without t (key_of x)) (after_change x t) (key_of x) (row_left x)
    (without_cells e c ps ms t (without t (key_of x)) (key_of x) y
    (λ i d. f i d ∙ (λ z. not (same_key (p z) (key e i) && has_cell (q z) c d) && has_place ps i d))
    (row_at_without t (key_of x)))
    (row_at_itself (key_of x) t)
    (λ h. subst (λ j. j.id < 2 ^ 64) p (l (ap is_some r ∙ h)))
    (λ i d. g i d ∙ (λ z. (same_key (p z) (key e i) && has_cell (r z) c d) || has_place ms i d))
    (λ j. row_at_after x t j ∙ at j (tested (same_key (key_of x) j)))
  where
    at : (j : Key) → Tested (same_key (key_of x) j)
        → cond (same_key (key_of x) j) (row_left x) (row_at t j) ≡ cond (same_key (key_of x) j) (row_left x) (row_at (without t (key_of x)) j)
    at j (inl s) = rw s refl
    at j (inr s) = rw s (sym (row_at_without t (key_of x) j ∙ ap (λ b. cond b None (row_at t j)) s))

-- one row more of rows in order
row_at_last : (t : Tables) (n : ℕ) (x : Key × Row) (q : Key) → in_order t ≡ true → n < length t → x ≡ get_or t n x
    → (row_at (take (suc n) t) q ≡ cond (same_key x.0 q) (Some x.1) (row_at (take n t) q)) × (row_at (take n t) x.0 ≡ None)
row_at_last [] n x q o l e = absurd (omega arith)
row_at_last (y ∷ ys) zero x q o l e = (sym (ap (λ z. cond (same_key z.0 q) (Some z.1) None) e), refl)
row_at_last (y ∷ ys) (suc n) x q o l e =
    let r : (is_first y.0 ys ≡ true) × (in_order ys ≡ true) = rest_in_order y ys o in
    let b : is_before y.0 x.0 ≡ true = ap (λ z. is_before y.0 z.0) e ∙ first_before y.0 ys n x r.0 r.1 (omega arith) in
    let d : same_key y.0 x.0 ≡ false = (earlier y.0 x.0 b).differs in
    let h : (row_at (take (suc n) ys) q ≡ cond (same_key x.0 q) (Some x.1) (row_at (take n ys) q)) × (row_at (take n ys) x.0 ≡ None) =
    row_at_last ys n x q r.1 (omega arith) e in
    (at d (tested (same_key y.0 q)) h.0, ap (λ b. cond b (Some y.1) (row_at (take n ys) x.0)) d ∙ h.1)
  where
    at : same_key y.0 x.0 ≡ false → Tested (same_key y.0 q) → row_at (take (suc n) ys) q ≡ cond (same_key x.0 q) (Some x.1) (row_at (take n ys) q)
        → row_at (y ∷ take (suc n) ys) q ≡ cond (same_key x.0 q) (Some x.1) (row_at (y ∷ take n ys) q)
    at d (inl s) h =
        let v : same_key x.0 q ≡ false = other (tested (same_key x.0 q)) in
        rw (s, v) refl
      where
        other : Tested (same_key x.0 q) → same_key x.0 q ≡ false
        other (inl w) =
            let e : x.0 ≡ q = same_key_eq x.0 q w in
            absurd (true≢false (sym s ∙ ap (same_key y.0) (sym e) ∙ d))
        other (inr w) = w
    at d (inr s) h = rw s h

pub one_row : (e c : ℕ) (ps qs : List Place) (t : Tables) (n : ℕ) (x : Key × Row) → in_order t ≡ true → n < length t → x ≡ get_or t n x → IsIndexOf e c ps (take n t) → x.0.id < 2 ^ 64
    → ((i : ℕ) (d : Cell) → has_place qs i d ≡ ((same_key x.0 (key e i) && has_cell (Some x.1) c d) || has_place ps i d))
    → IsIndexOf e c qs (take (n + 1) t)
one_row e c ps qs t n x o l y p h f =
    subst (λ m. IsIndexOf e c qs (take m t)) (sym (add-one n))
    (with_cells e c ps qs (take n t) (take (suc n) t) x.0 (Some x.1) p ((row_at_last t n x x.0 o l y).1) (λ z. h) f (λ q. (row_at_last t n x q o l y).0))

-- steps of the loop over changes
pub next_changes : (cs : List Change) (i : ℕ) (c : Change) (t u v : Tables) → i < length cs → c ≡ get_or cs i c → after_changes cs t ≡ after_changes (drop i cs) u → v ≡ after_change c u
    → after_changes cs t ≡ after_changes (drop (i + 1) cs) v
next_changes cs i c t u v l e h n =
    h ∙ ap (λ xs. after_changes xs u) (drop_more cs i c l ∙ ap (λ x. x ∷ drop (i + 1) cs) (sym e)) ∙ sym (ap (after_changes (drop (i + 1) cs)) n)

pub next_answer : (cs : List Change) (i : ℕ) (c : Change) (t u v : Tables) → i < length cs → c ≡ get_or cs i c → commit_answer cs t ≡ commit_answer (drop i cs) u → v ≡ after_change c u
    → is_none (refusal c u) ≡ true → commit_answer cs t ≡ commit_answer (drop (i + 1) cs) v
next_answer cs i c t u v l e h n a =
    h ∙ ap (λ xs. commit_answer xs u) (drop_more cs i c l ∙ ap (λ x. x ∷ drop (i + 1) cs) (sym e))
    ∙ at (refusal c u) a ∙ sym (ap (commit_answer (drop (i + 1) cs)) n)
  where
    at : (o : Option Commit) → is_none o ≡ true → unwrap_or o (commit_answer (drop (i + 1) cs) (after_change c u)) ≡ commit_answer (drop (i + 1) cs) (after_change c u)
    at None h = refl
    at (Some b) h = absurd (true≢false (sym h))

-- ---- the places of an entity's rows, and those of all rows
row_alone : (k : Key) (t : Tables) → row_at (filter (λ a. same_key a.0 k) t) k ≡ row_at t k
row_alone k [] = refl
row_alone k (x ∷ xs) = at (tested (same_key x.0 k)) (row_alone k xs)
  where
    at : Tested (same_key x.0 k) → row_at (filter (λ a. same_key a.0 k) xs) k ≡ row_at xs k
        → row_at (cond (same_key x.0 k) (x ∷ filter (λ a. same_key a.0 k) xs) (filter (λ a. same_key a.0 k) xs)) k ≡ row_at (x ∷ xs) k
    at (inl s) h =
        ap (λ b. row_at (cond b (x ∷ filter (λ a. same_key a.0 k) xs) (filter (λ a. same_key a.0 k) xs)) k) s ∙ ap (λ o. cond (same_key x.0 k) (Some x.1) o) h
    at (inr s) h =
        ap (λ b. row_at (cond b (x ∷ filter (λ a. same_key a.0 k) xs) (filter (λ a. same_key a.0 k) xs)) k) s ∙ h ∙ sym (ap (λ b. cond b (Some x.1) (row_at xs k)) s)

pub of_all : (e c : ℕ) (ps : List Place) (t some : Tables) → HasEntity e t some → IsIndexOf e c ps some → IsIndexOf e c ps t
of_all e c ps t some h x = record { cells = λ i d. x.cells i d ∙ ap (λ o. has_cell o c d) (there i); fit = x.fit }
  where
    there : (i : ℕ) → row_at some (key e i) ≡ row_at t (key e i)
    there i =
        sym (row_alone (key e i) some)
        ∙ ap (λ s. row_at s (key e i)) (h (λ a. same_key a.0 (key e i)) (λ a s. (and_parts (a.0.entity == e) (a.0.id == i) s).0))
        ∙ row_alone (key e i) t
