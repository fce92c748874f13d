-- Tables by keys, one write or one call after the other.
use Rattle.std.proofs.Common.{◌≡◌, ◌<◌, ◌+◌, ◌&&◌, ℕ, zero, suc, List, [], ◌∷◌, ◌++◌, length, get_or, take, map, refl, sym, ap, ◌∙◌, subst, arith}
use Rattle.std.specs.Prelude.{Option, Some, None, Bool, true, if◌then◌else◌}
use Rattle.std.specs.Option.{option_map, option_or, option_to_list}
use Rattle.std.specs.List.{list_all, filter_map, cons_option, range_with_len}
use Rattle.std.proofs.lemmas.List.{append-nil, take_more}
use Rattle.std.proofs.lemmas.List.Elements.{filter_map-append}
use Rattle.std.proofs.lemmas.List.Folds.{list_all-append}
use Rattle.std.proofs.lemmas.List.FromFn.{map-range_with_len_more}
use Rattle.hib_trace_calls.specs.declared.calls.Call.{Call}
use Rattle.hib_trace_calls.specs.declared.calls.Write.{Write}
use Rattle.hib_trace_before.specs.Before.{is_behind, is_load_at, first, early_row, row_before, write_before, before_of}
use Rattle.hib_trace_before.specs.Tables.{is_first, AreBegins, row_by, AreRows}

and_true : (b : Bool) → (b && true) ≡ b
and_true Bool.true = refl
and_true Bool.false = refl

begins_push : (ws : List Write) (w : Write) (bs ds : List (Option ℕ)) → length ds ≡ length bs → AreBegins ws bs →
    ((k t : ℕ) → k < length bs → is_first t (get_or ds k None) ≡ (is_first t (get_or bs k None) && is_behind k t w)) → AreBegins (ws ++ w ∷ []) ds
begins_push ws w bs ds e p each k t l =
    let m : k < length bs = omega (arith, e, l) in
    each k t m ∙ ap (λ b. b && is_behind k t w) (p k t m)
    ∙ ap (λ b. list_all (is_behind k t) ws && b) (sym (and_true (is_behind k t w)))
    ∙ sym (list_all-append (is_behind k t) ws (w ∷ []))

pub begins_step : (ws : List Write) (i : ℕ) (d : Write) (bs ds : List (Option ℕ)) → i < length ws → length ds ≡ length bs → AreBegins (take i ws) bs →
    ((k t : ℕ) → k < length bs → is_first t (get_or ds k None) ≡ (is_first t (get_or bs k None) && is_behind k t (get_or ws i d))) →
    AreBegins (take (i + 1) ws) ds
begins_step ws i d bs ds l n p each =
    subst (λ us. AreBegins us ds) (sym (take_more ws i d l)) (begins_push (take i ws) (get_or ws i d) bs ds n p each)

-- ---- rows

first_push : (rs : List ℕ) (o : Option ℕ) → first (rs ++ cons_option o []) ≡ option_or (first rs) o
first_push [] None = refl
first_push [] (Some r) = refl
first_push (q ∷ rs) None = refl
first_push (q ∷ rs) (Some r) = refl

rows_push : (cs : List Call) (c : Call) (bs rs qs : List (Option ℕ)) (clock : ℕ) → AreRows cs bs clock rs →
    ((k : ℕ) → k < length bs → get_or qs k None ≡ option_or (get_or rs k None) (row_by clock k (get_or bs k None) c)) →
    AreRows (cs ++ c ∷ []) bs clock qs
rows_push cs c bs rs qs clock p each k l =
    let f : Call → Option ℕ = row_by clock k (get_or bs k None) in
    each k l ∙ ap (λ o. option_or o (f c)) (p k l) ∙ sym (first_push (filter_map f cs) (f c))
    ∙ sym (ap first (filter_map-append f cs (c ∷ [])))

pub rows_step : (cs : List Call) (i : ℕ) (c : Call) (bs rs qs : List (Option ℕ)) (clock : ℕ) → i < length cs → c ≡ get_or cs i c →
    AreRows (take i cs) bs clock rs →
    ((k : ℕ) → k < length bs → get_or qs k None ≡ option_or (get_or rs k None) (row_by clock k (get_or bs k None) c)) →
    AreRows (take (i + 1) cs) bs clock qs
rows_step cs i c bs rs qs clock l e p each =
    subst (λ us. AreRows us bs clock qs) (sym (take_more cs i c l ∙ ap (λ u. take i cs ++ u ∷ []) (sym e)))
    (rows_push (take i cs) c bs rs qs clock p each)

-- ---- what was noted is what the definition says

filter_map_same : {A B : Type 0} (f g : A → Option B) (xs : List A) → ((x : A) → f x ≡ g x) → filter_map f xs ≡ filter_map g xs
filter_map_same f g [] e = refl
filter_map_same f g (x ∷ xs) e = ap (λ o. cons_option o (filter_map f xs)) (e x) ∙ ap (cons_option (g x)) (filter_map_same f g xs e)

row_is : (cs : List Call) (ws : List Write) (bs rs : List (Option ℕ)) (clock k : ℕ) → k < length bs → AreBegins ws bs → AreRows cs bs clock rs →
    get_or rs k None ≡ row_before clock cs ws k
row_is cs ws bs rs clock k l b p =
    p k l ∙ ap first (filter_map_same (row_by clock k (get_or bs k None)) (early_row clock ws k) cs
    (λ c. ap (λ t. if is_load_at k c && t then Some c.row else None) (b k (c.end + clock + clock) l)))

map_range_same : {X : Type 0} (f g : ℕ → X) (a n : ℕ) → ((k : ℕ) → k < a + n → f k ≡ g k) → map f (range_with_len a n) ≡ map g (range_with_len a n)
map_range_same f g a zero e = refl
map_range_same f g a (suc n) e =
    ap (λ x. x ∷ map f (range_with_len (a + 1) n)) (e a (omega arith))
    ∙ ap (λ xs. g a ∷ xs) (map_range_same f g (a + 1) n (λ k l. e k (omega (arith, l))))

-- the rows of a table of so many keys, as writes
abbrev pub put_of : List (Option ℕ) → ℕ → Option Write
put_of rs k = option_map (write_before k) (get_or rs k None)

pub put_is : (cs : List Call) (ws : List Write) (bs rs : List (Option ℕ)) (clock n : ℕ) → length bs ≡ n → AreBegins ws bs → AreRows cs bs clock rs →
    filter_map (λ o. o) (map (put_of rs) (range_with_len 0 n)) ≡ before_of clock cs ws n
put_is cs ws bs rs clock n e b p =
    ap (filter_map (λ o. o))
    (map_range_same (put_of rs) (λ k. option_map (write_before k) (row_before clock cs ws k)) 0 n
    (λ k l. ap (option_map (write_before k)) (row_is cs ws bs rs clock k (omega (arith, l, e)) b p)))

one : (o : Option Write) → filter_map (λ x. x) (o ∷ []) ≡ option_to_list o
one None = refl
one (Some w) = refl

pub put_step : (f : ℕ → Option Write) (k : ℕ) (ys zs : List Write) → ys ≡ filter_map (λ o. o) (map f (range_with_len 0 k)) →
    zs ≡ ys ++ option_to_list (f k) → zs ≡ filter_map (λ o. o) (map f (range_with_len 0 (k + 1)))
put_step f k ys zs p q =
    q ∙ ap (λ us. us ++ option_to_list (f k)) p
    ∙ ap (λ us. filter_map (λ o. o) (map f (range_with_len 0 k)) ++ us) (sym (one (f k)))
    ∙ sym (filter_map-append (λ o. o) (map f (range_with_len 0 k)) (f k ∷ []))
    ∙ sym (ap (filter_map (λ o. o)) (map-range_with_len_more f 0 k k (omega arith)))
