-- Files, one write after the other.
use Rattle.std.proofs.Common.{◌≡◌, ◌<◌, ◌+◌, ℕ, zero, suc, List, [], ◌∷◌, ◌++◌, length, get_or, take, refl, sym, ap, ◌∙◌, subst, arith}
use Rattle.std.specs.Prelude.{◌||◌, Bool, true, false, Option, Some, None, Vec, nat_eq, if◌then◌else◌}
use Rattle.std.specs.Option.{option_to_list}
use Rattle.std.specs.List.{AllZip, filter_map, cons_option, list_any}
use Rattle.std.specs.declared.alloc.Global.{Global}
use Rattle.std.proofs.lemmas.List.{take_more}
use Rattle.std.proofs.lemmas.List.Elements.{filter_map-append}
use Rattle.hib_trace_law.specs.declared.commits.Commit.{Commit}
use Rattle.hib_trace_calls.specs.declared.calls.Write.{Write}
use Rattle.std.proofs.lemmas.List.Folds.{list_any-append}
use Rattle.std.proofs.Math.Bool.{or-false}
use Rattle.hib_traces.specs.declared.order.Order.{Order}
use Rattle.hib_trace_filed.specs.Orders.{IsOrderOf, AreOrders}
use Rattle.hib_trace_filed.specs.Own.{is_own, own_written, has_own}
use Rattle.hib_trace_filed.specs.declared.own.Owns.{Owns}
use Rattle.hib_trace_filed.specs.Keys.{number_by, of_number, IsFiled}
use Rattle.hib_trace_filed.specs.declared.commits.By.{By}

one_of : (o : Option Commit) → option_to_list o ≡ cons_option o []
one_of None = refl
one_of (Some c) = refl

file_push : (by : By) (f : Write → Option Commit) (ws : List Write) (w : Write) (fs gs : List (Vec Commit Global)) (o : Option Commit) → length gs ≡ length fs →
    IsFiled by f ws fs → o ≡ f w → ((k : ℕ) (d : Vec Commit Global) → k < length fs →
    (get_or gs k d).items ≡ (get_or fs k d).items ++ option_to_list (if nat_eq (number_by by w) k then o else None)) → IsFiled by f (ws ++ w ∷ []) gs
file_push by f ws w fs gs o n p e each k d l =
    let m : k < length fs = omega (arith, l, n) in
    each k d m ∙ ap (λ c. (get_or fs k d).items ++ option_to_list (if nat_eq (number_by by w) k then c else None)) e
    ∙ ap (λ cs. cs ++ option_to_list (of_number by f k w)) (p k d m) ∙ ap (λ cs. filter_map (of_number by f k) ws ++ cs) (one_of (of_number by f k w))
    ∙ sym (filter_map-append (of_number by f k) ws (w ∷ []))

pub file_step : (by : By) (f : Write → Option Commit) (ws : List Write) (i : ℕ) (d : Write) (fs gs : List (Vec Commit Global)) (o : Option Commit) → i < length ws →
    length gs ≡ length fs → IsFiled by f (take i ws) fs → o ≡ f (get_or ws i d) → ((k : ℕ) (e : Vec Commit Global) → k < length fs →
    (get_or gs k e).items ≡ (get_or fs k e).items ++ option_to_list (if nat_eq (number_by by (get_or ws i d)) k then o else None)) → IsFiled by f (take (i + 1) ws) gs
file_step by f ws i d fs gs o l n p e each =
    subst (λ us. IsFiled by f us gs) (sym (take_more ws i d l)) (file_push by f (take i ws) (get_or ws i d) fs gs o n p e each)

-- ---- files made ready

pub zip_push : {A B : Type 0} (R : A → B → Type 0) (xs : List A) (ys : List B) (x : A) (y : B) → AllZip R xs ys → R x y → AllZip R (xs ++ x ∷ []) (ys ++ y ∷ [])
zip_push R [] [] x y p r = (r, tt)
zip_push R [] (w ∷ ys) x y p r = absurd p
zip_push R (v ∷ xs) [] x y p r = absurd p
zip_push R (v ∷ xs) (w ∷ ys) x y p r = (p.0, zip_push R xs ys x y p.1 r)

zip_count : {A B : Type 0} (R : A → B → Type 0) (xs : List A) (ys : List B) → AllZip R xs ys → length ys ≡ length xs
zip_count R [] [] p = refl
zip_count R [] (w ∷ ys) p = absurd p
zip_count R (v ∷ xs) [] p = absurd p
zip_count R (v ∷ xs) (w ∷ ys) p = ap suc (zip_count R xs ys p.1)

zip_at : {A B : Type 0} (R : A → B → Type 0) (xs : List A) (ys : List B) (k : ℕ) (d : A) (e : B) → AllZip R xs ys → k < length ys →
    R (get_or xs k d) (get_or ys k e)
zip_at R xs [] k d e p l = absurd (omega (arith, l))
zip_at R [] (w ∷ ys) k d e p l = absurd p
zip_at R (v ∷ xs) (w ∷ ys) zero d e p l = p.0
zip_at R (v ∷ xs) (w ∷ ys) (suc k) d e p l = zip_at R xs ys k d e p.1 (omega (arith, l))

each_ready : (g : ℕ → List Commit) (fs : List (Vec Commit Global)) (os : List Order) →
    ((k : ℕ) (d : Vec Commit Global) → k < length fs → (get_or fs k d).items ≡ g k) → AllZip (λ v o. IsOrderOf v.items o) fs os →
    (k : ℕ) (d : Order) → k < length os → IsOrderOf (g k) (get_or os k d)
each_ready g [] [] p q k d l = absurd (omega (arith, l))
each_ready g [] (o ∷ os) p q k d l = absurd q
each_ready g (v ∷ vs) os p q k d l =
    subst (λ cs. IsOrderOf cs (get_or os k d))
    (p k v (omega (arith, l, zip_count (λ (f : Vec Commit Global) (o : Order). IsOrderOf f.items o) (v ∷ vs) os q)))
    (zip_at (λ (f : Vec Commit Global) (o : Order). IsOrderOf f.items o) (v ∷ vs) os k v d q l)

pub orders_filed : (by : By) (f : Write → Option Commit) (ws : List Write) (count : ℕ) (fs : List (Vec Commit Global)) (os : List Order) →
    length fs ≡ count → IsFiled by f ws fs → AllZip (λ v o. IsOrderOf v.items o) fs os → AreOrders (λ k. filter_map (of_number by f k) ws) count os
orders_filed by f ws count fs os n p q = record {
  count = zip_count (λ (v : Vec Commit Global) (o : Order). IsOrderOf v.items o) fs os q ∙ n;
  each = each_ready (λ k. filter_map (of_number by f k) ws) fs os p q;
}

-- ---- rows that transactions wrote

if_or : (b c : Bool) → (if b then true else c) ≡ (c || b)
if_or true true = refl
if_or true false = refl
if_or false true = refl
if_or false false = refl

pub own_step : (ws : List Write) (i : ℕ) (d : Write) (x y : Owns) → i < length ws →
    ((t : Option ℕ) (k r : ℕ) → has_own x t k r ≡ own_written (take i ws) t k r) →
    ((t : Option ℕ) (k r : ℕ) → has_own y t k r ≡ (if is_own t k r (get_or ws i d) then true else has_own x t k r)) →
    (t : Option ℕ) (k r : ℕ) → has_own y t k r ≡ own_written (take (i + 1) ws) t k r
own_step ws i d x y l p q t k r =
    q t k r ∙ if_or (is_own t k r (get_or ws i d)) (has_own x t k r) ∙ ap (λ b. b || is_own t k r (get_or ws i d)) (p t k r)
    ∙ ap (λ b. own_written (take i ws) t k r || b) (sym (or-false (is_own t k r (get_or ws i d))))
    ∙ sym (list_any-append (is_own t k r) (take i ws) (get_or ws i d ∷ []))
    ∙ ap (list_any (is_own t k r)) (sym (take_more ws i d l))
