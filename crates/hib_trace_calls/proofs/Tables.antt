-- A table of ends, one call after the other.
use Rattle.std.proofs.Common.{◌≡◌, ◌<◌, ◌+◌, ℕ, List, [], ◌∷◌, ◌++◌, length, get_or, take, refl, sym, ap, ◌∙◌, subst, arith}
use Rattle.std.specs.Prelude.{Option, Some, None, unwrap_or}
use Rattle.std.specs.List.{filter_map, cons_option, flat_map}
use Rattle.std.proofs.lemmas.List.{append-nil, flat_map_more, take_more}
use Rattle.std.proofs.lemmas.List.Elements.{filter_map-append}
use Rattle.hib_trace_calls.specs.Numbers.{IsBelow}
use Rattle.hib_trace_calls.specs.Writes.{end_of, only, fate_of}
use Rattle.hib_trace_calls.specs.Ends.{more, known, IsTable, looked}
use Rattle.hib_trace_calls.specs.declared.calls.Call.{Call}
use Rattle.hib_trace_calls.specs.declared.calls.Fate.{Fate}

known_push : (fs : List Fate) (o : Option Fate) → known (fs ++ cons_option o []) ≡ more (known fs) o
known_push fs None = ap known (append-nil fs)
known_push [] (Some g) = refl
known_push (f ∷ []) (Some g) = refl
known_push (f ∷ e ∷ fs) (Some g) = refl

known_more : (h : Call → Option Fate) (cs : List Call) (c : Call) → known (filter_map h (cs ++ c ∷ [])) ≡ more (known (filter_map h cs)) (h c)
known_more h cs c = ap known (filter_map-append h cs (c ∷ [])) ∙ known_push (filter_map h cs) (h c)

table_push : (cs : List Call) (c : Call) (fs gs : List (Option Fate)) → length gs ≡ length fs → IsTable cs fs →
    ((t : ℕ) → t < length fs → get_or gs t None ≡ more (get_or fs t None) (end_of t c)) → IsTable (cs ++ c ∷ []) gs
table_push cs c fs gs e p each t l =
    let k : t < length fs = omega (arith, e, l) in
    each t k ∙ ap (λ o. more o (end_of t c)) (p t k) ∙ sym (known_more (end_of t) cs c)

pub table_step : (cs : List Call) (i : ℕ) (c : Call) (fs gs : List (Option Fate)) → i < length cs → c ≡ get_or cs i c → length gs ≡ length fs →
    IsTable (take i cs) fs → ((t : ℕ) → t < length fs → get_or gs t None ≡ more (get_or fs t None) (end_of t c)) → IsTable (take (i + 1) cs) gs
table_step cs i c fs gs l e n p each =
    subst (λ us. IsTable us gs) (sym (take_more cs i c l ∙ ap (λ u. take i cs ++ u ∷ []) (sym e))) (table_push (take i cs) c fs gs n p each)

known_only : (fs : List Fate) → unwrap_or (known fs) Fate.Open ≡ only fs
known_only [] = refl
known_only (f ∷ []) = refl
known_only (f ∷ g ∷ fs) = refl

pub looked_is : (cs : List Call) (fs : List (Option Fate)) (t : Option ℕ) → IsTable cs fs → IsBelow (length fs) t → looked fs t ≡ fate_of cs t
looked_is cs fs None p l = refl
looked_is cs fs (Some t) p l = ap (λ o. unwrap_or o Fate.Open) (p t l) ∙ known_only (filter_map (end_of t) cs)

-- ---- what each element of a list gives, one after the other

pub flat_step : {A B : Type 0} (f : A → List B) (xs : List A) (i : ℕ) (x : A) (ys zs ws : List B) → i < length xs → x ≡ get_or xs i x →
    ys ≡ flat_map f (take i xs) → ws ≡ f x → zs ≡ ys ++ ws → zs ≡ flat_map f (take (i + 1) xs)
flat_step f xs i x ys zs ws l e p r q =
    q ∙ ap (λ us. ys ++ us) r ∙ ap (λ us. us ++ f x) p ∙ flat_map_more f [] (take i xs) x
    ∙ sym (ap (flat_map f) (take_more xs i x l ∙ ap (λ u. take i xs ++ u ∷ []) (sym e)))
