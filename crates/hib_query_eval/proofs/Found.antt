-- The rows of identifiers that rise, and the rows that a query lists.
use Rattle.std.proofs.Common.{◌≡◌, ℕ, zero, suc, ◌+◌, ◌<◌, ◌≤◌, Bool, true, false, cond, ◌&&◌, ◌||◌, ◌==◌, List, [], ◌∷◌, ◌++◌, length, map, take, filter, get_or, slice_get, Some, None, Option, Ok, Err, Result, refl, ap, sym, ◌∙◌, subst, inl, inr, ◌⊎◌, option_to_list, eqb, add-one, arith}
use Rattle.std.specs.Prelude.{nat_lt}
use Rattle.std.specs.Option.{option_map_or}
use Rattle.std.specs.List.Sorted.{IsStrictlyIncreasing, IsSorted, IsPermutation}
use Rattle.std.specs.List.{dedup, Contains, Any}
use Rattle.std.specs.Ordering.{nat_cmp}
use Rattle.std.proofs.lemmas.Map.Keys.{IsStrictlyIncreasing-dedup}
use Rattle.std.proofs.lemmas.List.Kept.{Contains-dedup_nat}
use Rattle.std.proofs.lemmas.List.Sorted.{list_any-IsPermutation}
use Rattle.std.proofs.lemmas.Bool.{true≢false, or_right, and_from, lt-ltb, eqb-true, eq-eqb, ne_eqb, cases_order}
use Rattle.std.proofs.lemmas.List.{get_or_default, take_all}
use Rattle.std.proofs.lemmas.List.Folds.{list_any_more, Any-from_list_any, list_any-from_Any}
use Rattle.hib_base.specs.Keys.{same_key, is_before}
use Rattle.hib_base.specs.Tables.{Tables, row_at, is_first, in_order}
use Rattle.hib_base.proofs.Tables.{Tested, tested, same_key_eq, same_key_refl}
use Rattle.hib_outside.specs.Places.{one_further, place_in}
use Rattle.hib_outside.proofs.Orders.{precedes, is_first_trans, rest_in_order, row_at_before, before_differs}
use Rattle.hib_journal.specs.Types.{Key, Row, Query}
use Rattle.hib_journal.specs.Room.{key}
use Rattle.hib_journal.specs.Query.{listed, holds}
use Rattle.hib_query_eval.specs.Places.{has_id}
use Rattle.hib_query_eval.specs.Found.{row_in, if_met}

abbrev entry_there : Tables → Result ℕ ℕ → Option (Key × Row)
entry_there t (Ok i) = slice_get t i
entry_there t (Err i) = None

entry_further : (e : Key × Row) (es : Tables) (p : Result ℕ ℕ) → entry_there (e ∷ es) (one_further p) ≡ entry_there es p
entry_further e es (Ok i) = refl
entry_further e es (Err i) = refl

row_in_before : (t : Tables) (k : Key) → in_order t ≡ true → is_first k t ≡ true → row_in t k ≡ None
row_in_before [] k o f = refl
row_in_before (e ∷ es) k o f =
    let r : (is_first e.0 es ≡ true) × (in_order es ≡ true) = rest_in_order e es o in
    let d : same_key e.0 k ≡ false = before_differs k e.0 f in
    rw d (row_in_before es k r.1 (is_first_trans k e.0 es f r.0))

row_in_place : (t : Tables) (k : Key) → in_order t ≡ true → row_in t k ≡ entry_there t (place_in t k)
row_in_place [] k o = refl
row_in_place (e ∷ es) k o =
    let r : (is_first e.0 es ≡ true) × (in_order es ≡ true) = rest_in_order e es o in
    at r.0 r.1 (tested (same_key e.0 k)) (tested (is_before k e.0)) (row_in_place es k r.1)
  where
    at : is_first e.0 es ≡ true → in_order es ≡ true → Tested (same_key e.0 k) → Tested (is_before k e.0) → row_in es k ≡ entry_there es (place_in es k)
        → row_in (e ∷ es) k ≡ entry_there (e ∷ es) (place_in (e ∷ es) k)
    at f g (inl s) b h = rw s refl
    at f g (inr s) (inl b) h = rw (s, b) (row_in_before es k g (is_first_trans k e.0 es b f))
    at f g (inr s) (inr b) h = rw (s, b) (h ∙ sym (entry_further e es (place_in es k)))

entry_within : (t : Tables) (i : ℕ) (d : Key × Row) → i < length t → slice_get t i ≡ Some (get_or t i d)
entry_within [] i d h = absurd (omega arith)
entry_within (e ∷ es) zero d h = refl
entry_within (e ∷ es) (suc i) d h = entry_within es i d (omega arith)

pub row_in_ok : (t : Tables) (k : Key) (i : ℕ) (d : Key × Row) → in_order t ≡ true → i < length t → Ok i ≡ place_in t k → Some (get_or t i d) ≡ row_in t k
row_in_ok t k i d o l h = sym (entry_within t i d l) ∙ ap (entry_there t) h ∙ sym (row_in_place t k o)

pub row_in_err : (t : Tables) (k : Key) (i : ℕ) → in_order t ≡ true → Err i ≡ place_in t k → None ≡ row_in t k
row_in_err t k i o h = ap (entry_there t) h ∙ sym (row_in_place t k o)

-- the rows of an entity that pass a test, and whose identifiers pass one
module _ (n : ℕ) (P : Key × Row → Bool) where
  abbrev pub kept : (ℕ → Bool) → Tables → Tables
  kept S t = filter (λ a. (a.0.entity == n) && (P a && S a.0.id)) t

  abbrev pub one : Option (Key × Row) → Tables
  one None = []
  one (Some a) = cond (P a) (a ∷ []) []

  -- past a key, no identifier up to its own
  past : (S : ℕ → Bool) (j : ℕ) (k : Key) (t : Tables) → k.entity ≡ n → j ≤ k.id → ((m : ℕ) → S m ≡ true → m ≤ j) → is_first k t ≡ true → in_order t ≡ true → kept S t ≡ []
  past S j k [] e l f g o = refl
  past S j k (x ∷ xs) e l f g o =
      let r : (is_first x.0 xs ≡ true) × (in_order xs ≡ true) = rest_in_order x xs o in
      at (tested (x.0.entity == n)) (tested (S x.0.id)) ((precedes k x.0 g).by) (past S j k xs e l f (is_first_trans k x.0 xs g r.0) r.1)
    where
      at : Tested (x.0.entity == n) → Tested (S x.0.id) → (k.entity < x.0.entity) ⊎ ((k.entity ≡ x.0.entity) × (k.id < x.0.id)) → kept S xs ≡ [] → kept S (x ∷ xs) ≡ []
      at (inr p) q b h = rw p h
      at (inl p) (inr q) b h = none (P x) q
        where
          none : (b : Bool) → S x.0.id ≡ false → kept S (x ∷ xs) ≡ []
          none b q = ap (λ y. cond y (x ∷ kept S xs) (kept S xs)) (both (x.0.entity == n) (P x) (S x.0.id) q) ∙ h
            where
              both : (a b s : Bool) → s ≡ false → (a && (b && s)) ≡ false
              both true true s q = q
              both true false s q = refl
              both false b s q = refl
      at (inl p) (inl q) (inl b) h = let w : x.0.entity ≡ n = eqb-true x.0.entity n p in absurd (omega arith)
      at (inl p) (inl q) (inr b) h = let w : x.0.id ≤ j = f x.0.id q in let v : k.id < x.0.id = b.1 in absurd (omega arith)

  abbrev with_id : (ℕ → Bool) → ℕ → ℕ → Bool
  with_id S j m = S m || (j == m)

  -- one identifier more
  pub one_more : (S : ℕ → Bool) (j : ℕ) (t : Tables) → in_order t ≡ true → ((m : ℕ) → S m ≡ true → m < j)
      → kept (λ m. S m || (j == m)) t ≡ kept S t ++ one (row_in t (key n j))
  one_more S j [] o f = refl
  one_more S j (x ∷ xs) o f =
      let r : (is_first x.0 xs ≡ true) × (in_order xs ≡ true) = rest_in_order x xs o in
      at r.0 r.1 (tested (x.0.entity == n)) (cases_order x.0.id j) (one_more S j xs r.1 f)
    where
      to_j : (m : ℕ) → with_id S j m ≡ true → m ≤ j
      to_j m h = by (tested (S m))
        where
          by : Tested (S m) → m ≤ j
          by (inl s) = let l : m < j = f m s in omega arith
          by (inr s) = let e : j ≡ m = eqb-true j m (rw s at h) in omega arith

      under_j : (m : ℕ) → S m ≡ true → m ≤ j
      under_j m h = let l : m < j = f m h in omega arith

      not_s : (m : ℕ) → j ≤ m → S m ≡ false
      not_s m l = by (tested (S m))
        where
          by : Tested (S m) → S m ≡ false
          by (inl s) = let k : m < j = f m s in absurd (omega arith)
          by (inr s) = s

      other : (x.0.id ≡ j → ⊥) → same_key x.0 (key n j) ≡ false
      other d = let e : (x.0.id == j) ≡ false = ne_eqb x.0.id j d in by (x.0.entity == n) (x.0.id == j) e
        where
          by : (a b : Bool) → b ≡ false → (a && b) ≡ false
          by true b h = h
          by false b h = refl

      head : (a b s : Bool) (ys zs : Tables) → kept (with_id S j) xs ≡ ys ++ zs → cond (a && (b && s)) (x ∷ kept (with_id S j) xs) (kept (with_id S j) xs) ≡ cond (a && (b && s)) (x ∷ ys) ys ++ zs
      head a b s ys zs h = by (a && (b && s))
        where
          by : (c : Bool) → cond c (x ∷ kept (with_id S j) xs) (kept (with_id S j) xs) ≡ cond c (x ∷ ys) ys ++ zs
          by true = ap (λ t. x ∷ t) h
          by false = h

      at : is_first x.0 xs ≡ true → in_order xs ≡ true → Tested (x.0.entity == n) → (x.0.id ≡ j) ⊎ ((x.0.id < j) ⊎ (j < x.0.id))
          → kept (with_id S j) xs ≡ kept S xs ++ one (row_in xs (key n j)) → kept (with_id S j) (x ∷ xs) ≡ kept S (x ∷ xs) ++ one (row_in (x ∷ xs) (key n j))
      at g o (inr p) q h = rw p h
      at g o (inl p) (inr (inl l)) h =
          let d : same_key x.0 (key n j) ≡ false = other (λ e. below e l) in
          let q : (j == x.0.id) ≡ false = ne_eqb j x.0.id (λ e. below (sym e) l) in
          let t : with_id S j x.0.id ≡ S x.0.id = ap (λ b. S x.0.id || b) q ∙ or_false (S x.0.id) in
          ap (λ b. cond ((x.0.entity == n) && (P x && b)) (x ∷ kept (with_id S j) xs) (kept (with_id S j) xs)) t
          ∙ head (x.0.entity == n) (P x) (S x.0.id) (kept S xs) (one (row_in xs (key n j))) h
          ∙ sym (ap (λ b. kept S (x ∷ xs) ++ one (cond b (Some x) (row_in xs (key n j)))) d)
        where
          below : x.0.id ≡ j → x.0.id < j → ⊥
          below e l = omega arith

          or_false : (b : Bool) → (b || false) ≡ b
          or_false true = refl
          or_false false = refl
      at g o (inl p) (inl e) h =
          let w : x.0.entity ≡ n = eqb-true x.0.entity n p in
          let s : S x.0.id ≡ false = not_s x.0.id (omega arith) in
          let q : (j == x.0.id) ≡ true = eq-eqb j x.0.id (sym e) in
          let d : same_key x.0 (key n j) ≡ true = and_from (x.0.entity == n) (x.0.id == j) p (eq-eqb x.0.id j e) in
          let u : kept (with_id S j) xs ≡ [] = past (with_id S j) j x.0 xs w (omega arith) to_j g o in
          let v : kept S xs ≡ [] = past S j x.0 xs w (omega arith) under_j g o in
          (λ i. cond (p i && (P x && (s i || q i))) (x ∷ u i) (u i)) ∙ here (P x)
          ∙ sym (λ i. cond (p i && (P x && s i)) (x ∷ v i) (v i) ++ one (cond (d i) (Some x) (row_in xs (key n j))))
        where
          here : (b : Bool) → cond (true && (b && (false || true))) (x ∷ []) [] ≡ cond (true && (b && false)) (x ∷ []) [] ++ cond b (x ∷ []) []
          here true = refl
          here false = refl
      at g o (inl p) (inr (inr l)) h =
          let w : x.0.entity ≡ n = eqb-true x.0.entity n p in
          let s : S x.0.id ≡ false = not_s x.0.id (omega arith) in
          let q : (j == x.0.id) ≡ false = ne_eqb j x.0.id (λ e. below e l) in
          let d : same_key x.0 (key n j) ≡ false = other (λ e. below (sym e) l) in
          let u : kept (with_id S j) xs ≡ [] = past (with_id S j) j x.0 xs w (omega arith) to_j g o in
          let v : kept S xs ≡ [] = past S j x.0 xs w (omega arith) under_j g o in
          let a : row_in xs (key n j) ≡ None = row_in_before xs (key n j) o (first (is_first_j xs g)) in
          (λ i. cond (p i && (P x && (s i || q i))) (x ∷ u i) (u i)) ∙ here (P x)
          ∙ sym (λ i. cond (p i && (P x && s i)) (x ∷ v i) (v i) ++ one (cond (d i) (Some x) (a i)))
        where
          below : j ≡ x.0.id → j < x.0.id → ⊥
          below e l = omega arith

          first : {A : Type 0} → A → A
          first a = a

          before : is_before (key n j) x.0 ≡ true
          before =
              let c : (n == x.0.entity) ≡ true = eq-eqb n x.0.entity (sym (eqb-true x.0.entity n p)) in
              or_right (nat_lt n x.0.entity) ((n == x.0.entity) && nat_lt j x.0.id) (and_from (n == x.0.entity) (nat_lt j x.0.id) c (lt-ltb j x.0.id l))

          is_first_j : (t : Tables) → is_first x.0 t ≡ true → is_first (key n j) t ≡ true
          is_first_j t f = is_first_trans (key n j) x.0 t before f

          here : (b : Bool) → cond (true && (b && (false || false))) (x ∷ []) [] ≡ cond (true && (b && false)) (x ∷ []) [] ++ []
          here true = refl
          here false = refl

-- tests that agree on the rows keep the same ones
agree : (Q R : Key × Row → Bool) (t : Tables) → in_order t ≡ true → ((k : Key) (r : Row) → row_at t k ≡ Some r → Q (k, r) ≡ R (k, r)) → filter Q t ≡ filter R t
agree Q R [] o f = refl
agree Q R (x ∷ xs) o f =
    let r : (is_first x.0 xs ≡ true) × (in_order xs ≡ true) = rest_in_order x xs o in
    let h : Q x ≡ R x = f x.0 x.1 (ap (λ b. cond b (Some x.1) (row_at xs x.0)) (same_key_refl x.0)) in
    ap (λ b. cond b (x ∷ filter Q xs) (filter Q xs)) h ∙ ap (λ t. cond (R x) (x ∷ t) t) (agree Q R xs r.1 (λ k v g. f k v (later r.0 r.1 k v (tested (same_key x.0 k)) g)))
  where
    later : is_first x.0 xs ≡ true → in_order xs ≡ true → (k : Key) (v : Row) → Tested (same_key x.0 k) → row_at xs k ≡ Some v → row_at (x ∷ xs) k ≡ Some v
    later g o k v (inl s) h =
        let e : x.0 ≡ k = same_key_eq x.0 k s in
        let n : row_at xs k ≡ None = row_at_before xs k o (subst (λ j. is_first j xs ≡ true) e g) in
        let c : Some v ≡ None = sym h ∙ n in cc
    later g o k v (inr s) h = rw s h

-- among identifiers that hold all rows that meet a condition
pub all_found : (q : Query) (t : Tables) (ids : List ℕ) → in_order t ≡ true
    → ((r : Row) (i : ℕ) → row_at t (key q.entity i) ≡ Some r → option_map_or (holds t r) q.condition true ≡ true → has_id i ids ≡ true)
    → kept q.entity (λ a. option_map_or (holds t a.1) q.condition true) (λ m. has_id m ids) t ≡ listed q t
all_found q t ids o f =
    agree (λ a. (a.0.entity == q.entity) && (option_map_or (holds t a.1) q.condition true && has_id a.0.id ids)) (λ a. (a.0.entity == q.entity) && option_map_or (holds t a.1) q.condition true) t o
    (λ k r h. at k r h (tested (k.entity == q.entity)) (tested (option_map_or (holds t r) q.condition true)))
  where
    at : (k : Key) (r : Row) → row_at t k ≡ Some r → Tested (k.entity == q.entity) → Tested (option_map_or (holds t r) q.condition true)
        → ((k.entity == q.entity) && (option_map_or (holds t r) q.condition true && has_id k.id ids)) ≡ ((k.entity == q.entity) && option_map_or (holds t r) q.condition true)
    at k r h (inr e) m = rw e refl
    at k r h (inl e) (inr m) = rw (e, m) refl
    at k r h (inl e) (inl m) =
        let n : k.entity ≡ q.entity = eqb-true k.entity q.entity e in
        let w : k ≡ key q.entity k.id = λ i. record { entity = n i; id = k.id } in
        let v : has_id k.id ids ≡ true = f r k.id (ap (row_at t) (sym w) ∙ h) m in
        rw (e, m, v) refl

-- identifiers that rise
pub below_next : (ids : List ℕ) (i m : ℕ) → IsStrictlyIncreasing ids → i < length ids → has_id m (take i ids) ≡ true → m < get_or ids i 0
below_next ids zero m s l h = absurd (true≢false (sym h))
below_next ids (suc i) m s l h =
    let d : get_or ids i 0 < get_or ids (i + 1) 0 = s i (omega arith) in
    let d' : get_or ids i 0 < get_or ids (suc i) 0 = subst (λ n. get_or ids i 0 < get_or ids n 0) (add-one i) d in
    let e : (has_id m (take i ids) || (get_or ids i 0 == m)) ≡ true =
    sym (list_any_more (λ n. n == m) ids i 0 (omega arith)) ∙ ap (λ n. has_id m (take n ids)) (add-one i) ∙ h in
    at (tested (has_id m (take i ids))) (below_next ids i m s (omega arith)) d' e
  where
    at : Tested (has_id m (take i ids)) → (has_id m (take i ids) ≡ true → m < get_or ids i 0) → get_or ids i 0 < get_or ids (suc i) 0
        → (has_id m (take i ids) || (get_or ids i 0 == m)) ≡ true → m < get_or ids (suc i) 0
    at (inl t) f d e = let c : m < get_or ids i 0 = f t in omega arith
    at (inr t) f d e = let c : get_or ids i 0 ≡ m = eqb-true (get_or ids i 0) m (rw t at e) in omega arith

-- one identifier more, in a loop
module _ (q : Query) (t : Tables) (ids : List ℕ) (o : in_order t ≡ true) (s : IsStrictlyIncreasing ids) where
  abbrev pub met_of : ℕ → Tables
  met_of i = kept q.entity (λ a. option_map_or (holds t a.1) q.condition true) (λ m. has_id m (take i ids)) t

  pub one_id : (i x : ℕ) → i < length ids → x ≡ get_or ids i x → met_of (i + 1) ≡ met_of i ++ one q.entity (λ a. option_map_or (holds t a.1) q.condition true) (row_in t (key q.entity x))
  one_id i x l e =
      let y : get_or ids i 0 ≡ x = get_or_default ids i 0 x l ∙ sym e in
      ap (λ S. kept q.entity (λ a. option_map_or (holds t a.1) q.condition true) S t) (λ j m. list_any_more (λ n. n == m) ids i 0 l j)
      ∙ one_more q.entity (λ a. option_map_or (holds t a.1) q.condition true) (λ m. has_id m (take i ids)) (get_or ids i 0) t o (λ m h. below_next ids i m s l h)
      ∙ ap (λ n. met_of i ++ one q.entity (λ a. option_map_or (holds t a.1) q.condition true) (row_in t (key q.entity n))) y

  is_one : (a : Option (Key × Row)) (b : Option (Key × Row)) → b ≡ if_met q t a → one q.entity (λ a. option_map_or (holds t a.1) q.condition true) a ≡ option_to_list b
  is_one None b e = sym (ap option_to_list e)
  is_one (Some a) b e = at (option_map_or (holds t a.1) q.condition true) ∙ sym (ap option_to_list e)
    where
      at : (c : Bool) → cond c (a ∷ []) [] ≡ option_to_list (cond c (Some a) None)
      at true = refl
      at false = refl

  pub found_more : {A : Type 0} (now : A → Key × Row) (met new : List A) (i x : ℕ) (b : Option (Key × Row)) → i < length ids → x ≡ get_or ids i x
      → b ≡ if_met q t (row_in t (key q.entity x)) → map now met ≡ met_of i → map now new ≡ map now met ++ option_to_list b → map now new ≡ met_of (i + 1)
  found_more now met new i x b l e f h n =
      n ∙ ap (λ y. y ++ option_to_list b) h ∙ sym (one_id i x l e ∙ ap (λ y. met_of i ++ y) (is_one (row_in t (key q.entity x)) b f))

-- no identifiers, and all of them
pub none_yet : (n : ℕ) (P : Key × Row → Bool) (t : Tables) → [] ≡ kept n P (λ m. false) t
none_yet n P [] = refl
none_yet n P (x ∷ xs) = none_yet n P xs ∙ sym (ap (λ b. cond b (x ∷ kept n P (λ m. false) xs) (kept n P (λ m. false) xs)) (at (x.0.entity == n) (P x)))
  where
    at : (a b : Bool) → (a && (b && false)) ≡ false
    at true true = refl
    at true false = refl
    at false b = refl

pub at_end : (q : Query) (t : Tables) (ids : List ℕ) (i : ℕ) (rows : Tables) → in_order t ≡ true
    → ((r : Row) (i : ℕ) → row_at t (key q.entity i) ≡ Some r → option_map_or (holds t r) q.condition true ≡ true → has_id i ids ≡ true) → length ids ≤ i
    → rows ≡ kept q.entity (λ a. option_map_or (holds t a.1) q.condition true) (λ m. has_id m (take i ids)) t → rows ≡ listed q t
at_end q t ids i rows o f l h =
    h ∙ ap (λ xs. kept q.entity (λ a. option_map_or (holds t a.1) q.condition true) (λ m. has_id m xs) t) (take_all i ids l) ∙ all_found q t ids o f

-- identifiers in order, each once
pub rise : (xs ys : List ℕ) → IsSorted nat_cmp xs → ys ≡ dedup eqb xs → IsStrictlyIncreasing ys
rise xs ys s e = subst IsStrictlyIncreasing (sym e) (IsStrictlyIncreasing-dedup xs s)

pub id_left : (i : ℕ) (xs ys zs : List ℕ) → IsPermutation xs ys → zs ≡ dedup eqb ys → has_id i xs ≡ true → has_id i zs ≡ true
id_left i xs ys zs p e h =
    ap (has_id i) e ∙ there (dedup eqb ys) (Contains-dedup_nat ys i (inside ys (sym (list_any-IsPermutation (λ n. n == i) xs ys p) ∙ h)))
  where
    inside : (xs : List ℕ) → has_id i xs ≡ true → Contains xs i
    inside xs g =
        let a : Any (λ n. (n == i) ≡ true) xs = Any-from_list_any (λ n. n == i) xs g in
        (a.0, a.2, subst (λ n. get_or xs a.0 n ≡ n) (eqb-true a.1 i a.4) a.3)

    there : (xs : List ℕ) → Contains xs i → has_id i xs ≡ true
    there xs c = list_any-from_Any (λ n. n == i) xs (c.0, i, c.1, c.2, eq-eqb i i refl)
