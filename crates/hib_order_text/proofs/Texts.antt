-- One line more of a text.
use Rattle.std.proofs.Common.{◌≡◌, ◌∷◌, ◌++◌, ◌+◌, ◌<◌, ◌≤◌, ◌∙◌, ◌⊎◌, ℕ, List, [], Option, Some, None, inl, inr, ap, sym, append_assoc, length, take, get_or, flat_map, arith}
use Rattle.std.specs.Prelude.{slice_get}
use Rattle.std.proofs.lemmas.Grind.{flat_map-append}
use Rattle.std.proofs.lemmas.List.{append-nil, take_more}
use Rattle.std.proofs.lemmas.Option.{get_or_from_slice_get, slice_get_cases, slice_get_within}
use Rattle.hib_journal.specs.Types.{Outcome, SessionDef}
use Rattle.hib_order_text.specs.Texts.{level_text, levels_text, outcome_text_of, outcomes_text}

-- what was put is followed by a line, and then by the rest
one_more : (whole out line rest new : List ℕ) → whole ≡ out ++ (line ++ rest) → new ≡ out ++ line → whole ≡ new ++ rest
one_more whole out line rest new w n = w ∙ (sym (append_assoc out line rest) ∙ ap (λ (xs : List ℕ). xs ++ rest) (sym n))

pub levels_step : (k n : ℕ) (ns whole out new : List ℕ) → new ≡ out ++ level_text k n → whole ≡ out ++ levels_text k (n ∷ ns) → whole ≡ new ++ levels_text (k + 1) ns
levels_step k n ns whole out new e w = one_more whole out (level_text k n) (levels_text (k + 1) ns) new w e

pub outcomes_step : (os : List Outcome) (s : ℕ) (d : SessionDef) (ds : List SessionDef) (whole out new : List ℕ) →
    new ≡ out ++ outcome_text_of s d (slice_get os s) → whole ≡ out ++ outcomes_text os s (d ∷ ds) → whole ≡ new ++ outcomes_text os (s + 1) ds
outcomes_step os s d ds whole out new e w = one_more whole out (outcome_text_of s d (slice_get os s)) (outcomes_text os (s + 1) ds) new w e

-- a line for each, and one more
pub each_step : {X : Type 0} (f : X → List ℕ) (xs : List X) (i : ℕ) (x : X) (old out new : List ℕ) →
    slice_get xs i ≡ Some x → new ≡ out ++ f x → out ≡ old ++ flat_map f (take i xs) → new ≡ old ++ flat_map f (take (i + 1) xs)
each_step {X = X} f xs i x old out new p n w =
    let more : take (i + 1) xs ≡ take i xs ++ x ∷ [] =
    take_more xs i x (slice_get_within xs i x p) ∙ ap (λ (y : X). take i xs ++ y ∷ []) (get_or_from_slice_get xs i x x p) in
    let all : flat_map f (take (i + 1) xs) ≡ flat_map f (take i xs) ++ f x =
    ap (flat_map f) more ∙ (flat_map-append f (take i xs) (x ∷ []) ∙ ap (λ (y : List ℕ). flat_map f (take i xs) ++ y) (append-nil (f x))) in
    n ∙ (ap (λ (o : List ℕ). o ++ f x) w ∙ (append_assoc old (flat_map f (take i xs)) (f x) ∙ ap (λ (y : List ℕ). old ++ y) (sym all)))

some_none : {X : Type 0} (x : X) → ◌≡◌ {A = Option X} (Some x) None → ⊥
some_none x e = cc

too_far : (i n : ℕ) → n ≤ i → i < n → ⊥
too_far i n a b = omega arith

pub none_within : {X : Type 0} (xs : List X) (i : ℕ) → i < length xs → slice_get xs i ≡ None → ⊥
none_within {X = X} xs i l e = go (slice_get_cases xs i).1
  where
    go : ((x : X) × (i < length xs) × (slice_get xs i ≡ Some x) × (get_or xs i x ≡ x)) ⊎ ((length xs ≤ i) × (slice_get xs i ≡ None)) → ⊥
    go (inl p) = some_none p.0 (sym p.2 ∙ e)
    go (inr p) = too_far i (length xs) p.0 l
