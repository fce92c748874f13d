-- Listeners told in turn: those before a place that stay, then those from the place on.
use Rattle.std.proofs.Common.{◌≡◌, ℕ, ◌+◌, ◌<◌, ◌≤◌, inl, inr, Bool, true, false, List, [], ◌∷◌, ◌++◌, length, get_or, take, drop, map, refl, ap, sym, ◌∙◌, subst, arith}
use Rattle.std.specs.Prelude.{slice_set}
use Rattle.std.specs.List.{swap}
use Rattle.std.proofs.lemmas.List.{append-nil, append_assoc, set-set, take-set-le, take_more_set, drop-set-lt, drop_more, get_or-set_same, map_push, get_or_default}
use Rattle.std.proofs.lemmas.Bool.{cases_eq}
use Rattle.hib_journal.specs.Types.{Entry}
use Rattle.hib_outside.specs.declared.listener.Heard.{Heard}
use Rattle.hib_listeners.specs.Told.{Told, told_after, MayAnswer, AreTold}

-- a place is exchanged with one before it

set_both : {L : Type 0} (xs : List L) (i j : ℕ) (d : L) → i < length xs → j < length xs → swap xs i j ≡ slice_set (slice_set xs i (get_or xs j d)) j (get_or xs i d)
set_both [] i j d p q = absurd (omega arith)
set_both (x ∷ xs) i j d p q = rw (get_or_default (x ∷ xs) i x d p, get_or_default (x ∷ xs) j x d q) refl

pub swapped_front : {L : Type 0} (xs : List L) (i j : ℕ) (d : L) → i ≤ j → j < length xs → take (i + 1) (swap xs i j) ≡ take i xs ++ get_or xs j d ∷ []
swapped_front {L} xs i j d o l =
    let first : i < length xs = omega arith in
    ap (λ ys. take (i + 1) ys) (set_both xs i j d first l) ∙ elim (cases_eq i j) [ inl e ↦ same first e | inr n ↦ later first (omega arith) ]
  where
    same : i < length xs → i ≡ j → take (i + 1) (slice_set (slice_set xs i (get_or xs j d)) j (get_or xs i d)) ≡ take i xs ++ get_or xs j d ∷ []
    same f e =
        let P : ℕ → Type 0 = λ k. take (i + 1) (slice_set (slice_set xs i (get_or xs k d)) k (get_or xs i d)) ≡ take i xs ++ get_or xs k d ∷ [] in
        subst P e (ap (λ ys. take (i + 1) ys) (set-set xs i (get_or xs i d) (get_or xs i d)) ∙ take_more_set xs i (get_or xs i d) f)

    later : i < length xs → i < j → take (i + 1) (slice_set (slice_set xs i (get_or xs j d)) j (get_or xs i d)) ≡ take i xs ++ get_or xs j d ∷ []
    later f h = take-set-le (i + 1) (slice_set xs i (get_or xs j d)) j (get_or xs i d) (omega arith) ∙ take_more_set xs i (get_or xs j d) f

pub swapped_rest : {L : Type 0} (xs : List L) (i j : ℕ) (d : L) → i ≤ j → j < length xs → drop (j + 1) (swap xs i j) ≡ drop (j + 1) xs
swapped_rest xs i j d o l =
    let first : i < length xs = omega arith in
    ap (λ ys. drop (j + 1) ys) (set_both xs i j d first l)
    ∙ (drop-set-lt (j + 1) (slice_set xs i (get_or xs j d)) j (get_or xs i d) (omega arith) ∙ drop-set-lt (j + 1) xs i (get_or xs j d) (omega arith))

-- what it comes to from a place on, if the entry is still told there, and if one before it had no memory
abbrev pub FromHere : Entry → Bool → Bool → List Told → List Told → Type 0
FromHere entry true whole before after = AreTold entry whole before after
FromHere entry false whole before after = (whole ≡ false) × (after ≡ before)

-- those in front are told, whatever it comes to from here on
abbrev pub AreToldBefore : Entry → Bool → List Told → List Told → List Told → Type 0
AreToldBefore entry is_told all front rest = (whole : Bool) (after : List Told) → FromHere entry is_told whole rest after → AreTold entry whole all (front ++ after)

one_more : (front after : List Told) (one : Told) → (front ++ one ∷ []) ++ after ≡ front ++ one ∷ after
one_more front after one = append_assoc front (one ∷ []) after

pub told_none : (e : Entry) (all : List Told) → AreToldBefore e true all [] all
told_none e all = λ whole after h. h

pub told_all : (e : Entry) (is_told : Bool) (all front : List Told) → AreToldBefore e is_told all front [] → AreTold e is_told all front
told_all e true all front g = subst (λ xs. AreTold e true all xs) (append-nil front) (g true [] AreTold.All)
told_all e false all front g = subst (λ xs. AreTold e false all xs) (append-nil front) (g false [] (refl, refl))

pub told_stays : (e : Entry) (is_told : Bool) (all front rest : List Told) (one : Told) → AreToldBefore e is_told all front (one ∷ rest)
    → (is_told ≡ false → Heard.Stay ≡ Heard.NoMemory) → MayAnswer Heard.Stay one → AreToldBefore e is_told all (front ++ told_after Heard.Stay e one ∷ []) rest
told_stays e true all front rest one g u due =
    λ whole after h. rw (one_more front after (told_after Heard.Stay e one)) (g whole (told_after Heard.Stay e one ∷ after) (AreTold.Stays one whole rest after due h))
told_stays e false all front rest one g u due = let no : Heard.Stay ≡ Heard.NoMemory = u refl in absurd (cc)

pub told_leaves : (e : Entry) (is_told : Bool) (all front rest : List Told) (one : Told) → AreToldBefore e is_told all front (one ∷ rest)
    → (is_told ≡ false → Heard.Leave ≡ Heard.NoMemory) → MayAnswer Heard.Leave one → AreToldBefore e is_told all front rest
told_leaves e true all front rest one g u due = λ whole after h. g whole after (AreTold.Leaves one whole rest after due h)
told_leaves e false all front rest one g u due = let no : Heard.Leave ≡ Heard.NoMemory = u refl in absurd (cc)

pub told_stops : (e : Entry) (is_told : Bool) (all front rest : List Told) (one : Told) → AreToldBefore e is_told all front (one ∷ rest)
    → AreToldBefore e false all (front ++ one ∷ []) rest
told_stops e true all front rest one g =
    λ whole after h. rw (one_more front after one, h.0, h.1) (g false (one ∷ rest) (AreTold.Stops one rest))
told_stops e false all front rest one g =
    λ whole after h. rw (one_more front after one) (g whole (one ∷ after) (h.0, ap (λ xs. one ∷ xs) h.1))

-- the same of what the listeners of a list tell: the one at a place has answered, and is another now

abbrev pub IsNext : {L : Type 0} → List L → List L → ℕ → ℕ → L → Type 0
IsNext {L} xs ys kept at y =
    ((d : L) → take (kept + 1) ys ≡ take kept (slice_set xs at y) ++ get_or (slice_set xs at y) at d ∷ []) × (drop (at + 1) ys ≡ drop (at + 1) (slice_set xs at y))

from_here : {L : Type 0} (f : L → Told) (xs : List L) (at : ℕ) (x : L) → at < length xs → x ≡ get_or xs at x → map f (drop at xs) ≡ f x ∷ map f (drop (at + 1) xs)
from_here f xs at x l q = ap (λ ls. map f ls) (drop_more xs at x l) ∙ ap (λ y. f y ∷ map f (drop (at + 1) xs)) (sym q)

behind : {L : Type 0} (f : L → Told) (xs ys : List L) (kept at : ℕ) (y : L) → IsNext xs ys kept at y → map f (drop (at + 1) ys) ≡ map f (drop (at + 1) xs)
behind f xs ys kept at y n = ap (λ ls. map f ls) (n.1 ∙ drop-set-lt (at + 1) xs at y (omega arith))

in_front : {L : Type 0} (f : L → Told) (xs ys : List L) (kept at : ℕ) (y : L) → kept ≤ at → at < length xs → IsNext xs ys kept at y
    → map f (take (kept + 1) ys) ≡ map f (take kept xs) ++ f y ∷ []
in_front f xs ys kept at y o l n =
    let same : take (kept + 1) ys ≡ take kept xs ++ y ∷ [] = n.0 y ∙ (ap (λ ls. ls ++ get_or (slice_set xs at y) at y ∷ []) (take-set-le kept xs at y o) ∙ ap (λ z. take kept xs ++ z ∷ []) (get_or-set_same xs at y y l)) in
    ap (λ ls. map f ls) same ∙ map_push f (take kept xs) y

pub next_stays : {L : Type 0} (f : L → Told) (e : Entry) (is_told : Bool) (all : List Told) (xs ys : List L) (kept at : ℕ) (x y : L) → kept ≤ at → at < length xs → x ≡ get_or xs at x
    → AreToldBefore e is_told all (map f (take kept xs)) (map f (drop at xs)) → (is_told ≡ false → Heard.Stay ≡ Heard.NoMemory) → MayAnswer Heard.Stay (f x)
    → f y ≡ told_after Heard.Stay e (f x) → IsNext xs ys kept at y → AreToldBefore e is_told all (map f (take (kept + 1) ys)) (map f (drop (at + 1) ys))
next_stays f e is_told all xs ys kept at x y o l q g u due s n =
    let here = subst (λ rest. AreToldBefore e is_told all (map f (take kept xs)) rest) (from_here f xs at x l q) g in
    let told = told_stays e is_told all (map f (take kept xs)) (map f (drop (at + 1) xs)) (f x) here u due in
    rw (in_front f xs ys kept at y o l n, behind f xs ys kept at y n, s) told

pub next_stops : {L : Type 0} (f : L → Told) (e : Entry) (is_told : Bool) (all : List Told) (xs ys : List L) (kept at : ℕ) (x y : L) → kept ≤ at → at < length xs → x ≡ get_or xs at x
    → AreToldBefore e is_told all (map f (take kept xs)) (map f (drop at xs)) → f y ≡ f x
    → IsNext xs ys kept at y → AreToldBefore e false all (map f (take (kept + 1) ys)) (map f (drop (at + 1) ys))
next_stops f e is_told all xs ys kept at x y o l q g s n =
    let here = subst (λ rest. AreToldBefore e is_told all (map f (take kept xs)) rest) (from_here f xs at x l q) g in
    let told = told_stops e is_told all (map f (take kept xs)) (map f (drop (at + 1) xs)) (f x) here in
    rw (in_front f xs ys kept at y o l n, behind f xs ys kept at y n, s) told

pub next_leaves : {L : Type 0} (f : L → Told) (e : Entry) (is_told : Bool) (all : List Told) (xs : List L) (kept at : ℕ) (x y : L) → kept ≤ at → at < length xs → x ≡ get_or xs at x
    → AreToldBefore e is_told all (map f (take kept xs)) (map f (drop at xs)) → (is_told ≡ false → Heard.Leave ≡ Heard.NoMemory) → MayAnswer Heard.Leave (f x)
    → AreToldBefore e is_told all (map f (take kept (slice_set xs at y))) (map f (drop (at + 1) (slice_set xs at y)))
next_leaves f e is_told all xs kept at x y o l q g u due =
    let here = subst (λ rest. AreToldBefore e is_told all (map f (take kept xs)) rest) (from_here f xs at x l q) g in
    let told = told_leaves e is_told all (map f (take kept xs)) (map f (drop (at + 1) xs)) (f x) here u due in
    rw (take-set-le kept xs at y o, drop-set-lt (at + 1) xs at y (omega arith)) told
