-- Names that stay apart, with one more at the end.
use Rattle.std.proofs.Common.{◌≡◌, ℕ, ◌+◌, ◌≤◌, Bool, true, false, not, cond, ◌||◌, List, [], ◌∷◌, ◌++◌, length, map, bytes_eq, refl, sym, ◌∙◌, subst, arith}
use Rattle.std.specs.List.{list_all, list_any, position_or_len, prefix_len}
use Rattle.std.proofs.lemmas.Bool.{and_parts, and_from, or_parts, or_from, true≢false, false≢true, false_from_ne_true}
use Rattle.std.proofs.lemmas.Slice.Eq.{bytes_eq-Decides}
use Rattle.hib_base.specs.Apart.{are_apart_by}
use Rattle.hib_base.specs.Words.{is_name, has_name, are_apart, are_names}
use Rattle.hib_base.proofs.Lists.{all_more}

-- two words that differ
pub differ : (v w : List ℕ) → bytes_eq v w ≡ false → bytes_eq w v ≡ false
differ v w h = false_from_ne_true (bytes_eq w v) (λ e. true≢false (sym ((bytes_eq-Decides v w).1 (sym ((bytes_eq-Decides w v).0 e))) ∙ h))

none_more : {A : Type 0} (p : A → Bool) (xs : List A) (x : A) → list_any p xs ≡ false → p x ≡ false → list_any p (xs ++ x ∷ []) ≡ false
none_more p [] x h e = or_from (p x) false e refl
none_more p (y ∷ ys) x h e =
    let both : (p y ≡ false) × (list_any p ys ≡ false) = or_parts (p y) (list_any p ys) h in
    or_from (p y) (list_any p (ys ++ x ∷ [])) both.0 (none_more p ys x both.1 e)

not_false : (b : Bool) → not b ≡ true → b ≡ false
not_false true h = absurd (false≢true h)
not_false false h = refl

not_true : (b : Bool) → b ≡ false → not b ≡ true
not_true true h = absurd (true≢false h)
not_true false h = refl

-- things that stay apart, with one more at the end that is none of them
pub apart_by_more : {A : Type 0} (same : A → A → Bool) (xs : List A) (x : A) → ((v w : A) → same v w ≡ false → same w v ≡ false) → are_apart_by same xs ≡ true → list_any (λ y. same y x) xs ≡ false →
    are_apart_by same (xs ++ x ∷ []) ≡ true
apart_by_more same [] x turn h e = refl
apart_by_more same (v ∷ xs) x turn h e =
    let both : (not (list_any (λ y. same y v) xs) ≡ true) × (are_apart_by same xs ≡ true) = and_parts (not (list_any (λ y. same y v) xs)) (are_apart_by same xs) h in
    let none : (same v x ≡ false) × (list_any (λ y. same y x) xs ≡ false) = or_parts (same v x) (list_any (λ y. same y x) xs) e in
    and_from (not (list_any (λ y. same y v) (xs ++ x ∷ []))) (are_apart_by same (xs ++ x ∷ []))
    (not_true (list_any (λ y. same y v) (xs ++ x ∷ [])) (none_more (λ y. same y v) xs x (not_false (list_any (λ y. same y v) xs) both.0) (turn v x none.0)))
    (apart_by_more same xs x turn both.1 none.1)

names_more : (ws : List (List ℕ)) (w : List ℕ) → are_names ws ≡ true → is_name w ≡ true → has_name ws w ≡ false → are_names (ws ++ w ∷ []) ≡ true
names_more ws w h i e =
    let both : (list_all (λ u. is_name u) ws ≡ true) × (are_apart ws ≡ true) = and_parts (list_all (λ u. is_name u) ws) (are_apart ws) h in
    and_from (list_all (λ u. is_name u) (ws ++ w ∷ [])) (are_apart (ws ++ w ∷ [])) (all_more (λ u. is_name u) ws w both.0 i) (apart_by_more bytes_eq ws w (λ v u. differ v u) both.1 e)

map_more : {A : Type 0} (f : A → List ℕ) (xs : List A) (x : A) → map f (xs ++ x ∷ []) ≡ map f xs ++ f x ∷ []
map_more f [] x = refl
map_more f (y ∷ ys) x = rw (map_more f ys x) refl

pub has_mapped : {A : Type 0} (f : A → List ℕ) (xs : List A) (w : List ℕ) → has_name (map f xs) w ≡ list_any (λ x. bytes_eq (f x) w) xs
has_mapped f [] w = refl
has_mapped f (x ∷ xs) w = rw (has_mapped f xs w) refl

-- things with names, and one more of a name that none has
pub named_more : {A : Type 0} (f : A → List ℕ) (xs : List A) (x : A) → are_names (map f xs) ≡ true → is_name (f x) ≡ true → list_any (λ y. bytes_eq (f y) (f x)) xs ≡ false →
    are_names (map f (xs ++ x ∷ [])) ≡ true
named_more f xs x h i e =
    subst (λ ws. are_names ws ≡ true) (sym (map_more f xs x)) (names_more (map f xs) (f x) h i (has_mapped f xs (f x) ∙ e))

-- if no place is found, none passes
pub none_found : {A : Type 0} (p : A → Bool) (xs : List A) → length xs ≤ position_or_len p xs → list_any p xs ≡ false
none_found p [] h = refl
none_found p (x ∷ xs) h = by_test (p x) h (λ l. none_found p xs l)
  where
    by_test : (b : Bool) → length (x ∷ xs) ≤ cond (not b) (1 + prefix_len (λ y. not (p y)) xs) 0 → (length xs ≤ prefix_len (λ y. not (p y)) xs → list_any p xs ≡ false) → (b || list_any p xs) ≡ false
    by_test true l f = absurd (omega (arith, l))
    by_test false l f = f (omega (arith, l))
