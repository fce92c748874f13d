-- Regions go from one list to another, one after the other, and stay as many.
use Rattle.std.proofs.Common.{◌≡◌, ℕ, List, [], ◌∷◌, ◌++◌, map, reverse, length, sym, ap, ◌∙◌}
use Rattle.std.proofs.lemmas.List.{map-append, append_assoc, reverse-append, length-map}

pub moved : {A B : Type 0} (f : A → ℕ) (g : B → ℕ) (xs ys : List A) (x : A) (us vs : List B) (u : B) (whole : List ℕ) → xs ≡ ys ++ x ∷ [] → vs ≡ us ++ u ∷ [] → g u ≡ f x → map g us ++ map f (reverse xs) ≡ whole →
    map g vs ++ map f (reverse ys) ≡ whole
moved f g xs ys x us vs u whole e h q i =
    ap (λ z. map g z ++ map f (reverse ys)) h
    ∙ (ap (λ k. k ++ map f (reverse ys)) (map-append g us (u ∷ []))
    ∙ (append_assoc (map g us) (g u ∷ []) (map f (reverse ys))
    ∙ (ap (λ n. map g us ++ (n ∷ map f (reverse ys))) q
    ∙ (ap (λ z. map g us ++ map f z) (sym (ap reverse e ∙ reverse-append ys (x ∷ []))) ∙ i))))

pub as_many : {A : Type 0} (f : A → ℕ) (xs ys : List A) → map f xs ≡ map f ys → length xs ≡ length ys
as_many f xs ys e = sym (length-map xs f) ∙ (ap length e ∙ length-map ys f)
