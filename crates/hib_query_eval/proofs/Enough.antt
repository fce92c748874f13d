-- The first rows that a query lists, where they are enough.
use Rattle.std.proofs.Common.{◌≡◌, ℕ, zero, suc, ◌+◌, ◌<◌, ◌≤◌, min, Bool, true, false, cond, ◌&&◌, ◌==◌, ◌⊎◌, inl, inr, List, [], ◌∷◌, ◌++◌, length, map, take, drop, get_or, slice_get, Some, None, Option, Ok, Err, Result, refl, ap, sym, ◌∙◌, subst, arith}
use Rattle.std.specs.Prelude.{nat_lt, pos, unwrap_or}
use Rattle.std.specs.Option.{option_map_or}
use Rattle.std.specs.List.{filter}
use Rattle.std.proofs.lemmas.List.{take_all, take_more, take-append-le, take-append-drop, drop-take, length-take, length-map, length-append, map-append, append-nil}
use Rattle.std.proofs.lemmas.List.Elements.{filter-append}
use Rattle.std.proofs.lemmas.Bool.{true≢false, and_parts, and_from, leb-true, leb-false, le-ltb, eqb-true, eq-eqb, or_right, ltb-false}
use Rattle.hib_base.specs.Keys.{same_key, is_before}
use Rattle.hib_base.specs.Tables.{Tables, is_first, in_order}
use Rattle.hib_base.proofs.Tables.{Tested, tested, same_key_eq}
use Rattle.hib_outside.specs.Places.{one_further, place_in}
use Rattle.hib_outside.proofs.Orders.{precedes, is_first_trans, rest_in_order}
use Rattle.hib_journal.specs.Types.{Key, Row, Cell, Sort, Select, Query}
use Rattle.hib_journal.specs.Room.{key}
use Rattle.hib_journal.specs.Query.{holds, listed, placed, sorted, selected, gives}
use Rattle.hib_query_eval.specs.Enough.{enough_for, enough, is_enough, first_of, is_listed, IsFirst, place_of, HasEntity}

-- ---- a loop that stops where a number is enough
pub not_full : (o : Option ℕ) (done : Tables) (x : Key × Row) → is_enough (length (first_of o done)) o ≡ false → first_of o (done ++ x ∷ []) ≡ first_of o done ++ x ∷ []
not_full None done x h = refl
not_full (Some n) done x h =
    let l : length (take n done) < n = leb-false n (length (take n done)) h in
    let m : length (take n done) ≡ min n (length done) = length-take n done in
    let k : length done < n = short n (length done) (subst (λ v. v < n) m l) in
    let f : length (done ++ x ∷ []) ≤ n = omega (arith, length-append {A = Key × Row} done (x ∷ [])) in
    take_all n (done ++ x ∷ []) f ∙ ap (λ t. t ++ x ∷ []) (sym (take_all n done (omega arith)))
  where
    short : (n m : ℕ) → min n m < n → m < n
    short n m h = omega arith

pub full : (o : Option ℕ) (done more : Tables) → is_enough (length (first_of o done)) o ≡ true → first_of o (done ++ more) ≡ first_of o done
full None done more h = absurd (true≢false (sym h))
full (Some n) done more h =
    let l : n ≤ length (take n done) = leb-true n (length (take n done)) h in
    let m : length (take n done) ≡ min n (length done) = length-take n done in
    take-append-le n done more (long n (length done) (subst (λ v. n ≤ v) m l))
  where
    long : (n m : ℕ) → n ≤ min n m → n ≤ m
    long n m h = omega arith

module _ {A : Type 0} (now : A → Key × Row) (P : Key × Row → Bool) (o : Option ℕ) (rows : Tables) (met : List A) (i : ℕ) (h : map now met ≡ first_of o (filter P (take i rows))) where
  counted : is_enough (length met) o ≡ is_enough (length (first_of o (filter P (take i rows)))) o
  counted = ap (λ n. is_enough n o) (sym (length-map met now) ∙ ap length h)

  next : (x : Key × Row) → i < length rows → x ≡ get_or rows i x → filter P (take (i + 1) rows) ≡ filter P (take i rows) ++ filter P (x ∷ [])
  next x l e = ap (filter P) (take_more rows i x l ∙ ap (λ y. take i rows ++ y ∷ []) (sym e)) ∙ filter-append P (take i rows) (x ∷ [])

  pub row_more : (x : Key × Row) (y : A) (new : List A) → i < length rows → x ≡ get_or rows i x → is_enough (length met) o ≡ false → P x ≡ true → now y ≡ x → new ≡ met ++ y ∷ []
      → map now new ≡ first_of o (filter P (take (i + 1) rows))
  row_more x y new l e f p w n =
      ap (map now) n ∙ map-append now met (y ∷ []) ∙ ap (λ z. map now met ++ z ∷ []) w ∙ ap (λ t. t ++ x ∷ []) h
      ∙ sym (not_full o (filter P (take i rows)) x (sym counted ∙ f))
      ∙ ap (λ b. first_of o (filter P (take i rows) ++ cond b (x ∷ []) [])) (sym p) ∙ ap (first_of o) (sym (next x l e))

  pub row_passed : (x : Key × Row) (new : List A) → i < length rows → x ≡ get_or rows i x → P x ≡ false → new ≡ met → map now new ≡ first_of o (filter P (take (i + 1) rows))
  row_passed x new l e p n =
      ap (map now) n ∙ h
      ∙ ap (first_of o) (sym (append-nil (filter P (take i rows))) ∙ ap (λ b. filter P (take i rows) ++ cond b (x ∷ []) []) (sym p) ∙ sym (next x l e))

  pub rows_enough : is_enough (length met) o ≡ true → map now met ≡ first_of o (filter P rows)
  rows_enough f =
      h ∙ sym (full o (filter P (take i rows)) (filter P (drop i rows)) (sym counted ∙ f))
      ∙ ap (first_of o) (sym (filter-append P (take i rows) (drop i rows)) ∙ ap (filter P) (take-append-drop i rows))

  pub rows_done : length rows ≤ i → map now met ≡ first_of o (filter P rows)
  rows_done l = h ∙ ap (λ t. first_of o (filter P t)) (take_all i rows l)

-- ---- the rows of an entity
further : (p : Result ℕ ℕ) → place_of (one_further p) ≡ suc (place_of p)
further (Ok i) = refl
further (Err i) = refl

place_further : (x : Key × Row) (xs : Tables) (k : Key) → same_key x.0 k ≡ false → is_before k x.0 ≡ false → place_of (place_in (x ∷ xs) k) ≡ suc (place_of (place_in xs k))
place_further x xs k s b = (λ i. place_of (cond (s i) (Ok 0) (cond (b i) (Err 0) (one_further (place_in xs k))))) ∙ further (place_in xs k)

module _ (P : Key × Row → Bool) (k : Key) (f : (a : Key × Row) → same_key a.0 k ≡ false → is_before k a.0 ≡ false → P a ≡ false) where
  skipped : (t : Tables) → filter P (drop (place_of (place_in t k)) t) ≡ filter P t
  skipped [] = refl
  skipped (x ∷ xs) = at (tested (same_key x.0 k)) (tested (is_before k x.0)) (skipped xs)
    where
      at : Tested (same_key x.0 k) → Tested (is_before k x.0) → filter P (drop (place_of (place_in xs k)) xs) ≡ filter P xs → filter P (drop (place_of (place_in (x ∷ xs) k)) (x ∷ xs)) ≡ filter P (x ∷ xs)
      at (inl s) b h = rw s refl
      at (inr s) (inl b) h = rw (s, b) refl
      at (inr s) (inr b) h =
          ap (λ n. filter P (drop n (x ∷ xs))) (place_further x xs k s b) ∙ h ∙ sym (ap (λ v. cond v (x ∷ filter P xs) (filter P xs)) (f x s b))

pub from_entity : (entity : ℕ) (t : Tables) (n : ℕ) → n ≡ place_of (place_in t (key entity 0)) → HasEntity entity t (drop n t)
from_entity entity t n e P g = ap (λ m. filter P (drop m t)) e ∙ skipped P (key entity 0) other t
  where
    other : (a : Key × Row) → same_key a.0 (key entity 0) ≡ false → is_before (key entity 0) a.0 ≡ false → P a ≡ false
    other a s b = at (tested (P a))
      where
        at : Tested (P a) → P a ≡ false
        at (inr p) = p
        at (inl p) =
            let q : (a.0.entity == entity) ≡ true = g a p in
            let n : a.0.entity ≡ entity = eqb-true a.0.entity entity q in
            absurd (none (tested (a.0.id == 0)) (tested (nat_lt 0 a.0.id)) q n)
          where
            none : Tested (a.0.id == 0) → Tested (nat_lt 0 a.0.id) → (a.0.entity == entity) ≡ true → a.0.entity ≡ entity → ⊥
            none (inl z) w q n = true≢false (sym (λ i. q i && z i) ∙ s)
            none (inr z) (inl w) q n =
                let c : (entity == a.0.entity) ≡ true = eq-eqb entity a.0.entity (sym n) in
                true≢false (sym (or_right (nat_lt entity a.0.entity) ((entity == a.0.entity) && nat_lt 0 a.0.id) (λ i. c i && w i)) ∙ b)
            none (inr z) (inr w) q n =
                let l : a.0.id ≤ 0 = ltb-false 0 a.0.id w in
                let e : a.0.id ≡ 0 = omega arith in
                true≢false (sym (eq-eqb a.0.id 0 e) ∙ z)

pub in_order_drop : (n : ℕ) (t : Tables) → in_order t ≡ true → in_order (drop n t) ≡ true
in_order_drop zero t o = o
in_order_drop (suc n) [] o = refl
in_order_drop (suc n) (x ∷ xs) o = in_order_drop n xs (rest_in_order x xs o).1

pub in_order_take : (n : ℕ) (t : Tables) → in_order t ≡ true → in_order (take n t) ≡ true
in_order_take zero t o = refl
in_order_take (suc n) [] o = refl
in_order_take (suc n) (x ∷ xs) o =
    let r : (is_first x.0 xs ≡ true) × (in_order xs ≡ true) = rest_in_order x xs o in
    and_from (is_first x.0 (take n xs)) (in_order (take n xs)) (still n xs r.0) (in_order_take n xs r.1)
  where
    still : (n : ℕ) (ys : Tables) → is_first x.0 ys ≡ true → is_first x.0 (take n ys) ≡ true
    still zero ys f = refl
    still (suc n) [] f = refl
    still (suc n) (y ∷ ys) f = f

-- behind a key no row passes
module _ (P : Key × Row → Bool) (k : Key) (f : (a : Key × Row) → k.entity ≤ a.0.entity → P a ≡ false) where
  none_behind : (t : Tables) → in_order t ≡ true → is_first k t ≡ true → filter P t ≡ []
  none_behind [] o h = refl
  none_behind (x ∷ xs) o h =
      let r : (is_first x.0 xs ≡ true) × (in_order xs ≡ true) = rest_in_order x xs o in
      ap (λ b. cond b (x ∷ filter P xs) (filter P xs)) (f x (above ((precedes k x.0 h).by))) ∙ none_behind xs r.1 (is_first_trans k x.0 xs h r.0)
    where
      above : (k.entity < x.0.entity) ⊎ ((k.entity ≡ x.0.entity) × (k.id < x.0.id)) → k.entity ≤ x.0.entity
      above (inl l) = omega arith
      above (inr l) = let e : k.entity ≡ x.0.entity = l.0 in omega arith

  pub cut_behind : (t : Tables) → in_order t ≡ true → filter P (take (place_of (place_in t k)) t) ≡ filter P t
  cut_behind [] o = refl
  cut_behind (x ∷ xs) o =
      let r : (is_first x.0 xs ≡ true) × (in_order xs ≡ true) = rest_in_order x xs o in
      at r.0 r.1 (tested (same_key x.0 k)) (tested (is_before k x.0)) (cut_behind xs r.1)
    where
      at : is_first x.0 xs ≡ true → in_order xs ≡ true → Tested (same_key x.0 k) → Tested (is_before k x.0) → filter P (take (place_of (place_in xs k)) xs) ≡ filter P xs
          → filter P (take (place_of (place_in (x ∷ xs) k)) (x ∷ xs)) ≡ filter P (x ∷ xs)
      at g o (inl s) b h =
          let e : x.0 ≡ k = same_key_eq x.0 k s in
          let p : P x ≡ false = f x (subst (λ j. k.entity ≤ j.entity) (sym e) (omega arith)) in
          ap (λ c. filter P (take (place_of (cond c (Ok 0) (cond (is_before k x.0) (Err 0) (one_further (place_in xs k))))) (x ∷ xs))) s
          ∙ sym (none_behind xs o (subst (λ j. is_first j xs ≡ true) e g)) ∙ sym (ap (λ c. cond c (x ∷ filter P xs) (filter P xs)) p)
      at g o (inr s) (inl b) h =
          (λ i. filter P (take (place_of (cond (s i) (Ok 0) (cond (b i) (Err 0) (one_further (place_in xs k))))) (x ∷ xs)))
          ∙ sym (none_behind (x ∷ xs) (and_from (is_first x.0 xs) (in_order xs) g o) b)
      at g o (inr s) (inr b) h = ap (λ n. filter P (take n (x ∷ xs))) (place_further x xs k s b) ∙ ap (λ t. cond (P x) (x ∷ t) t) h

pub before_next : (entity next : ℕ) (t rest : Tables) (n : ℕ) → next ≡ entity + 1 → in_order rest ≡ true → HasEntity entity t rest → n ≡ place_of (place_in rest (key next 0))
    → HasEntity entity t (take n rest)
before_next entity next t rest n e o f p P g = ap (λ m. filter P (take m rest)) p ∙ cut_behind P (key next 0) other rest o ∙ f P g
  where
    other : (a : Key × Row) → next ≤ a.0.entity → P a ≡ false
    other a l = at (tested (P a))
      where
        at : Tested (P a) → P a ≡ false
        at (inr q) = q
        at (inl q) = let n : a.0.entity ≡ entity = eqb-true a.0.entity entity (g a q) in absurd (omega arith)

of_entity : (q : Query) (t : Tables) (a : Key × Row) → is_listed q t a ≡ true → (a.0.entity == q.entity) ≡ true
of_entity q t a h = (and_parts (a.0.entity == q.entity) (option_map_or (holds t a.1) q.condition true) h).0

-- as many as are enough stand among the first rows
pub listed_first : (P : Key × Row → Bool) (own first met : Tables) (n m : ℕ) → first ≡ take m own → met ≡ first_of (Some n) (filter P first) → n ≤ length met
    → met ≡ take n (filter P own)
listed_first P own first met n m e h l =
    let g : met ≡ take n (filter P (take m own)) = h ∙ ap (λ r. take n (filter P r)) e in
    let k : n ≤ length (filter P (take m own)) = long (length (filter P (take m own))) (subst (λ v. n ≤ v) (ap length g ∙ length-take n (filter P (take m own))) l) in
    g ∙ sym (take-append-le n (filter P (take m own)) (filter P (drop m own)) k)
    ∙ ap (take n) (sym (filter-append P (take m own) (drop m own)) ∙ ap (filter P) (take-append-drop m own))
  where
    long : (v : ℕ) → n ≤ min n v → n ≤ v
    long v h = omega arith

-- what is listed of an entity's rows
pub first_listed : (q : Query) (view t own met : Tables) (most o : Option ℕ) → view ≡ t → HasEntity q.entity t own → most ≡ o → met ≡ first_of o (filter (is_listed q view) own)
    → IsFirst most q t met
first_listed q view t own met most o e f m h =
    inr (h ∙ (λ i. first_of (sym m i) (f (is_listed q view) (of_entity q view) i)) ∙ ap (λ v. first_of most (filter (is_listed q v) t)) e)

-- ---- rows of one entity stand in the order of their identifiers
module _ (q : Query) (view : Tables) where
  rises : (x : Key × Row) (t : Tables) (n : ℕ) → (x.0.entity == q.entity) ≡ true → is_first x.0 t ≡ true → in_order t ≡ true
      → placed [] x (take n (filter (is_listed q view) t)) ≡ x ∷ take n (filter (is_listed q view) t)
  rises x [] zero e f o = refl
  rises x [] (suc n) e f o = refl
  rises x (y ∷ t) n e f o =
      let r : (is_first y.0 t ≡ true) × (in_order t ≡ true) = rest_in_order y t o in
      at (tested (is_listed q view y)) n r.0 (rises x t n e (is_first_trans x.0 y.0 t f r.0) r.1)
    where
      above : (y.0.entity == q.entity) ≡ true → nat_lt y.0.id x.0.id ≡ false
      above g = by ((precedes x.0 y.0 f).by) (eqb-true x.0.entity q.entity e) (eqb-true y.0.entity q.entity g)
        where
          by : (x.0.entity < y.0.entity) ⊎ ((x.0.entity ≡ y.0.entity) × (x.0.id < y.0.id)) → x.0.entity ≡ q.entity → y.0.entity ≡ q.entity → nat_lt y.0.id x.0.id ≡ false
          by (inl l) a b = absurd (omega arith)
          by (inr l) a b = let m : x.0.id < y.0.id = l.1 in le-ltb y.0.id x.0.id (omega arith)

      at : Tested (is_listed q view y) → (n : ℕ) → is_first y.0 t ≡ true → placed [] x (take n (filter (is_listed q view) t)) ≡ x ∷ take n (filter (is_listed q view) t)
          → placed [] x (take n (filter (is_listed q view) (y ∷ t))) ≡ x ∷ take n (filter (is_listed q view) (y ∷ t))
      at (inr p) n r h = ap (λ b. placed [] x (take n (cond b (y ∷ filter (is_listed q view) t) (filter (is_listed q view) t)))) p ∙ h
          ∙ sym (ap (λ b. x ∷ take n (cond b (y ∷ filter (is_listed q view) t) (filter (is_listed q view) t))) p)
      at (inl p) zero r h = refl
      at (inl p) (suc n) r h =
          ap (λ b. placed [] x (take (suc n) (cond b (y ∷ filter (is_listed q view) t) (filter (is_listed q view) t)))) p
          ∙ ap (λ b. cond b (y ∷ placed [] x (take n (filter (is_listed q view) t))) (x ∷ y ∷ take n (filter (is_listed q view) t))) (above (of_entity q view y p))
          ∙ sym (ap (λ b. x ∷ take (suc n) (cond b (y ∷ filter (is_listed q view) t) (filter (is_listed q view) t))) p)

  stand : (t : Tables) (n : ℕ) → in_order t ≡ true → sorted [] (take n (filter (is_listed q view) t)) ≡ take n (filter (is_listed q view) t)
  stand [] zero o = refl
  stand [] (suc n) o = refl
  stand (x ∷ t) n o = let r : (is_first x.0 t ≡ true) × (in_order t ≡ true) = rest_in_order x t o in at (tested (is_listed q view x)) n r.0 r.1 (λ m. stand t m r.1)
    where
      at : Tested (is_listed q view x) → (n : ℕ) → is_first x.0 t ≡ true → in_order t ≡ true
          → ((m : ℕ) → sorted [] (take m (filter (is_listed q view) t)) ≡ take m (filter (is_listed q view) t))
          → sorted [] (take n (filter (is_listed q view) (x ∷ t))) ≡ take n (filter (is_listed q view) (x ∷ t))
      at (inr p) n f o h = ap (λ b. sorted [] (take n (cond b (x ∷ filter (is_listed q view) t) (filter (is_listed q view) t)))) p ∙ h n
          ∙ sym (ap (λ b. take n (cond b (x ∷ filter (is_listed q view) t) (filter (is_listed q view) t))) p)
      at (inl p) zero f o h = refl
      at (inl p) (suc n) f o h =
          ap (λ b. sorted [] (take (suc n) (cond b (x ∷ filter (is_listed q view) t) (filter (is_listed q view) t)))) p
          ∙ ap (placed [] x) (h n) ∙ rises x t n (of_entity q view x p) f o
          ∙ sym (ap (λ b. take (suc n) (cond b (x ∷ filter (is_listed q view) t) (filter (is_listed q view) t))) p)

pub cut_first : {X : Type 0} (o l : ℕ) (xs : List X) → take l (drop o (take (o + l) xs)) ≡ take l (drop o xs)
cut_first o l xs = ap (take l) (drop-take o l xs) ∙ take_all l (take l (drop o xs)) (simp length-take (omega arith))

-- ---- what a query gives of the rows that are enough
cut_same : (q : Query) (t : Tables) (o l : ℕ) → in_order t ≡ true → take l (drop o (sorted [] (take (o + l) (listed q t)))) ≡ take l (drop o (sorted [] (listed q t)))
cut_same q t o l r =
    ap (λ s. take l (drop o s)) (stand q t t (o + l) r) ∙ cut_first o l (listed q t)
    ∙ ap (λ s. take l (drop o s)) (sym (ap (sorted []) (sym (all (listed q t))) ∙ stand q t t (length (listed q t)) r ∙ all (listed q t)))
  where
    all : (xs : Tables) → take (length xs) xs ≡ xs
    all xs = take_all (length xs) xs (omega arith)

same_cut : (q : Query) (t : Tables) (o l : ℕ) → in_order t ≡ true → q.order ≡ [] → q.offset ≡ o → q.limit ≡ l
    → take q.limit (drop q.offset (sorted q.order (take (o + l) (listed q t)))) ≡ take q.limit (drop q.offset (sorted q.order (listed q t)))
same_cut q t o l r b c d =
    (λ i. take (d i) (drop (c i) (sorted (b i) (take (o + l) (listed q t))))) ∙ cut_same q t o l r ∙ sym (λ i. take (d i) (drop (c i) (sorted (b i) (listed q t))))

same_selected : (q : Query) (t : Tables) (s : Select) (os : List Sort) (o l : ℕ) → in_order t ≡ true → q.order ≡ os → q.offset ≡ o → q.limit ≡ l
    → selected q (first_of (enough_for s os (o + l)) (listed q t)) s ≡ selected q (listed q t) s
same_selected q t Select.Count os o l r b c d = refl
same_selected q t Select.Ids [] o l r b c d = ap (map (λ a. Cell.Int (pos a.0.id))) (same_cut q t o l r b c d)
same_selected q t Select.Ids (x ∷ os) o l r b c d = refl
same_selected q t (Select.Column n) [] o l r b c d = ap (map (λ a. unwrap_or (slice_get a.1.cells n) (Cell.Bool false))) (same_cut q t o l r b c d)
same_selected q t (Select.Column n) (x ∷ os) o l r b c d = refl

pub enough_selected : (q : Query) (t rows : Tables) → in_order t ≡ true → IsFirst (enough q) q t rows → selected q rows q.select ≡ selected q (listed q t) q.select
enough_selected q t rows r (inl e) = ap (λ s. selected q s q.select) e
enough_selected q t rows r (inr e) = ap (λ s. selected q s q.select) e ∙ same_selected q t q.select q.order q.offset q.limit r refl refl refl

pub given_of : (q : Query) (t u s rows : Tables) (l : List Cell) → in_order s ≡ true → u ≡ t → s ≡ u → IsFirst (enough q) q s rows → l ≡ selected q rows q.select → l ≡ gives q t
unfolding gives
given_of q t u s rows l r e f h g = g ∙ enough_selected q s rows r h ∙ ap (λ v. selected q (listed q v) q.select) (f ∙ e)

pub given_first : (q : Query) (t view slice rows : Tables) (o : Option ℕ) (l : List Cell) → in_order t ≡ true → slice ≡ t → view ≡ t → o ≡ enough q
    → rows ≡ first_of o (filter (is_listed q view) slice) → l ≡ selected q rows q.select → l ≡ gives q t
given_first q t view slice rows o l r e f n h g =
    given_of q t t t rows l r refl refl (inr (h ∙ (λ i. first_of (n i) (filter (is_listed q (f i)) (e i))))) g
