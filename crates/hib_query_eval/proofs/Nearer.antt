-- The first rows in an order are among those that aren't behind a bound in its first column.
use Rattle.std.proofs.Common.{◌≡◌, ◌≢◌, ℕ, ◌+◌, ◌<◌, ◌≤◌, Bool, true, false, cond, not, ◌&&◌, ◌==◌, List, [], ◌∷◌, Some, length, get_or, map, take, drop, inl, inr, refl, ap, sym, ◌∙◌, subst}
use Rattle.std.specs.Prelude.{pos, unwrap_or, slice_get}
use Rattle.std.specs.List.{filter, list_all}
use Rattle.std.proofs.lemmas.List.{length-map, take_all}
use Rattle.std.proofs.lemmas.List.Folds.{list_all_more}
use Rattle.std.proofs.lemmas.Bool.{true≢false, and_parts, and_from, eqb-true}
use Rattle.hib_base.specs.Tables.{Tables}
use Rattle.hib_base.proofs.Tables.{Tested, tested}
use Rattle.hib_journal.specs.Types.{Key, Row, Cell, Sort, Select, Query}
use Rattle.hib_journal.specs.Query.{is_below_at, comes_before, sorted, selected, holds, gives}
use Rattle.hib_query_eval.specs.Orders.{kind, is_behind, is_alike}
use Rattle.std.specs.Option.{option_map_or}
use Rattle.hib_query_eval.specs.Enough.{is_listed, HasEntity}
use Rattle.hib_query_eval.proofs.Enough.{cut_first}
use Rattle.hib_query_eval.proofs.Merges.{earlier_one_way, below_chain}
use Rattle.hib_query_eval.proofs.Parted.{first_low}
use Rattle.hib_query_eval.proofs.Walks.{is_earlier}

-- rows that are alike in the first column, and of which one is behind a cell and the other isn't
apart : (o : Sort) (os : List Sort) (b : Cell) (x a : Key × Row) → is_alike o b x ≡ true → is_alike o b a ≡ true → is_behind o b x ≡ false → is_behind o b a ≡ true
    → (comes_before (o ∷ os) a x ≡ false) × (comes_before (o ∷ os) x a ≡ true)
apart o os b x a p q f g =
    let e : is_earlier o x a ≡ true = at (tested (is_earlier o x a)) (tested o.desc) in
    let n : is_earlier o a x ≡ false = earlier_one_way o x a e in
    (λ i. cond (n i) true (cond (e i) false (comes_before os a x)), λ i. cond (e i) true (cond (n i) false (comes_before os x a)))
  where
    of_x : kind (slice_get x.1.cells o.column) ≡ kind (Some b)
    of_x = eqb-true (kind (slice_get x.1.cells o.column)) (kind (Some b)) p

    of_a : kind (slice_get a.1.cells o.column) ≡ kind (Some b)
    of_a = eqb-true (kind (slice_get a.1.cells o.column)) (kind (Some b)) q

    pick : (u v w : Bool) → o.desc ≡ u → cond o.desc v w ≡ cond u v w
    pick u v w d = ap (λ m. cond m v w) d

    at : Tested (is_earlier o x a) → Tested o.desc → is_earlier o x a ≡ true
    at (inl t) d = t
    at (inr t) (inl d) =
        let f' : is_below_at (slice_get x.1.cells o.column) (Some b) ≡ false = sym (pick true _ _ d) ∙ f in
        let g' : is_below_at (slice_get a.1.cells o.column) (Some b) ≡ true = sym (pick true _ _ d) ∙ g in
        let t' : is_below_at (slice_get a.1.cells o.column) (slice_get x.1.cells o.column) ≡ false = sym (pick true _ _ d) ∙ t in
        absurd (true≢false (sym g' ∙ below_chain (slice_get a.1.cells o.column) (slice_get x.1.cells o.column) (Some b) (of_a ∙ sym of_x) of_x t' f'))
    at (inr t) (inr d) =
        let f' : is_below_at (Some b) (slice_get x.1.cells o.column) ≡ false = sym (pick false _ _ d) ∙ f in
        let g' : is_below_at (Some b) (slice_get a.1.cells o.column) ≡ true = sym (pick false _ _ d) ∙ g in
        let t' : is_below_at (slice_get x.1.cells o.column) (slice_get a.1.cells o.column) ≡ false = sym (pick false _ _ d) ∙ t in
        absurd (true≢false (sym g' ∙ below_chain (Some b) (slice_get x.1.cells o.column) (slice_get a.1.cells o.column) (sym of_x) (of_x ∙ sym of_a) f' t'))

filter_both : (P Q : Key × Row → Bool) (t : Tables) → filter (λ a. P a && Q a) t ≡ filter P (filter Q t)
filter_both P Q [] = refl
filter_both P Q (a ∷ t) = at (filter (λ x. P x && Q x) t) (filter Q t) (filter_both P Q t)
  where
    at : (xs ys : Tables) → xs ≡ filter P ys → cond (P a && Q a) (a ∷ xs) xs ≡ filter P (cond (Q a) (a ∷ ys) ys)
    at xs ys h = by (tested (P a)) (tested (Q a))
      where
        by : Tested (P a) → Tested (Q a) → cond (P a && Q a) (a ∷ xs) xs ≡ filter P (cond (Q a) (a ∷ ys) ys)
        by (inl f) (inl g) =
            (λ i. cond (f i && g i) (a ∷ xs) xs) ∙ ap (λ s. a ∷ s) h
            ∙ sym (ap (λ v. filter P (cond v (a ∷ ys) ys)) g ∙ ap (λ v. cond v (a ∷ filter P ys) (filter P ys)) f)
        by (inr f) (inl g) =
            (λ i. cond (f i && g i) (a ∷ xs) xs) ∙ h
            ∙ sym (ap (λ v. filter P (cond v (a ∷ ys) ys)) g ∙ ap (λ v. cond v (a ∷ filter P ys) (filter P ys)) f)
        by (inl f) (inr g) = (λ i. cond (f i && g i) (a ∷ xs) xs) ∙ h ∙ sym (ap (λ v. filter P (cond v (a ∷ ys) ys)) g)
        by (inr f) (inr g) = (λ i. cond (f i && g i) (a ∷ xs) xs) ∙ h ∙ sym (ap (λ v. filter P (cond v (a ∷ ys) ys)) g)

all_kept : (P Q : Key × Row → Bool) (t : Tables) → list_all P t ≡ true → list_all P (filter Q t) ≡ true
all_kept P Q [] h = refl
all_kept P Q (a ∷ t) h =
    let w : (P a ≡ true) × (list_all P t ≡ true) = and_parts (P a) (list_all P t) h in
    at (Q a) (all_kept P Q t w.1) w.0
  where
    at : (q : Bool) → list_all P (filter Q t) ≡ true → P a ≡ true → list_all P (cond q (a ∷ filter Q t) (filter Q t)) ≡ true
    at true f g = and_from (P a) (list_all P (filter Q t)) g f
    at false f g = f

-- all rows so far pass a test
pub all_more : (P : Key × Row → Bool) (rows : Tables) (n : ℕ) (x : Key × Row) → n < length rows → x ≡ get_or rows n x → list_all P (take n rows) ≡ true → P x ≡ true
    → list_all P (take (n + 1) rows) ≡ true
all_more P rows n x l e h g = list_all_more P rows n x l ∙ ap (λ b. b && P (get_or rows n x)) h ∙ ap P (sym e) ∙ g

pub all_done : (P : Key × Row → Bool) (rows : Tables) (n : ℕ) → length rows ≤ n → list_all P (take n rows) ≡ true → list_all P rows ≡ true
all_done P rows n l h = ap (list_all P) (sym (take_all n rows l)) ∙ h

-- the first rows in the order are among those that aren't behind the bound, if these are as many
pub first_near : {A : Type 0} (now : A → Key × Row) (o : Sort) (os sorts : List Sort) (b : Cell) (Q : Key × Row → Bool) (rows : Tables) (met : List A) (n : ℕ) → sorts ≡ o ∷ os
    → map now met ≡ filter (λ a. not (is_behind o b a) && Q a) rows → list_all (is_alike o b) rows ≡ true → n ≤ length met
    → take n (sorted sorts (map now met)) ≡ take n (sorted sorts (filter Q rows))
first_near now o os sorts b Q rows met n s e h l =
    let f : map now met ≡ filter (λ a. not (is_behind o b a)) (filter Q rows) = e ∙ filter_both (λ a. not (is_behind o b a)) Q rows in
    let k : n ≤ length (filter (λ a. not (is_behind o b a)) (filter Q rows)) = subst (λ m. n ≤ m) (sym (length-map met now) ∙ ap length f) l in
    (λ i. take n (sorted (s i) (f i)))
    ∙ first_low (o ∷ os) (is_behind o b) (is_alike o b) (apart o os b) (filter Q rows) n (all_kept (is_alike o b) Q rows h) k
    ∙ sym (ap (λ v. take n (sorted v (filter Q rows))) s)

-- what a query selects depends on the first rows in its order alone, unless it counts them
pub selected_first : (q : Query) (xs ys : Tables) → q.select ≢ Select.Count → take (q.offset + q.limit) (sorted q.order xs) ≡ take (q.offset + q.limit) (sorted q.order ys)
    → selected q xs q.select ≡ selected q ys q.select
selected_first q xs ys n e = at q.select n
  where
    cut : take q.limit (drop q.offset (sorted q.order xs)) ≡ take q.limit (drop q.offset (sorted q.order ys))
    cut =
        sym (cut_first q.offset q.limit (sorted q.order xs)) ∙ ap (λ t. take q.limit (drop q.offset t)) e ∙ cut_first q.offset q.limit (sorted q.order ys)

    at : (s : Select) → s ≢ Select.Count → selected q xs s ≡ selected q ys s
    at Select.Count n = absurd (n refl)
    at Select.Ids n = ap (map (λ a. Cell.Int (pos a.0.id))) cut
    at (Select.Column c) n = ap (map (λ a. unwrap_or (slice_get a.1.cells c) (Cell.Bool false))) cut

-- what a query gives, by the first rows in its order of all rows of its entity
pub given_foremost : (q : Query) (t view own rows : Tables) (l : List Cell) → view ≡ t → HasEntity q.entity t own → q.select ≢ Select.Count
    → take (q.offset + q.limit) (sorted q.order rows) ≡ take (q.offset + q.limit) (sorted q.order (filter (is_listed q view) own))
    → l ≡ selected q rows q.select → l ≡ gives q t
unfolding gives
given_foremost q t view own rows l v h n e g =
    g ∙ selected_first q rows (filter (is_listed q view) own) n e
    ∙ ap (λ xs. selected q xs q.select) (h (is_listed q view) (λ a s. (and_parts (a.0.entity == q.entity) (option_map_or (holds view a.1) q.condition true) s).0) ∙ ap (λ s. filter (is_listed q s) t) v)
