-- Of a list those are chosen that pass a test, one after the other.
use Rattle.std.proofs.Common.{◌≡◌, ℕ, ◌+◌, ◌<◌, Bool, true, false, cond, List, [], ◌∷◌, ◌++◌, length, take, get_or, sym, ap, ◌∙◌}
use Rattle.std.proofs.lemmas.List.{append-nil}
use Rattle.std.proofs.lemmas.List.Elements.{filter_more}
use Rattle.std.specs.List.{filter}

module _ {A : Type 0} (p : A → Bool) (xs : List A) (i : ℕ) (x : A) (old new : List A) (l : i < length xs) (e : x ≡ get_or xs i x) (o : old ≡ filter p (take i xs)) where
  next : filter p (take (i + 1) xs) ≡ filter p (take i xs) ++ cond (p x) (x ∷ []) []
  next = filter_more p xs i x l ∙ ap (λ y. filter p (take i xs) ++ cond (p y) (y ∷ []) []) (sym e)

  pub chosen : p x ≡ true → new ≡ old ++ x ∷ [] → new ≡ filter p (take (i + 1) xs)
  chosen t n = n ∙ (ap (λ ys. ys ++ x ∷ []) o ∙ sym (next ∙ ap (λ b. filter p (take i xs) ++ cond b (x ∷ []) []) t))

  pub passed_over : p x ≡ false → new ≡ old → new ≡ filter p (take (i + 1) xs)
  passed_over t n = n ∙ (o ∙ sym (next ∙ (ap (λ b. filter p (take i xs) ++ cond b (x ∷ []) []) t ∙ append-nil (filter p (take i xs)))))
