-- One more instance of a loop over instances.
use Rattle.std.proofs.Common.{◌≡◌, ℕ, zero, suc, ◌+◌, add-one, List, [], ◌∷◌, ◌++◌, drop, slice_get, Some, None, Option, refl, sym, ap, ◌∙◌, append_assoc}
use Rattle.std.specs.List.{filter_map, cons_option}
use Rattle.hib_journal.specs.Types.{Change}
use Rattle.hib_flush.specs.Planned.{listed}

drop_at : {A : Type 0} (xs : List A) (i : ℕ) (x : A) → slice_get xs i ≡ Some x → drop i xs ≡ x ∷ drop (suc i) xs
drop_at [] i x e = absurd (cc)
drop_at (y ∷ ys) zero x e = let s : y ≡ x = cc in rw s refl
drop_at (y ∷ ys) (suc i) x e = drop_at ys i x e

listed_append : (o : Option Change) (cs : List Change) → listed o ++ cs ≡ cons_option o cs
listed_append None cs = refl
listed_append (Some c) cs = refl

pub one_more : {A : Type 0} (f : A → Option Change) (xs : List A) (i : ℕ) (x : A) (o : Option Change) (done whole : List Change) → slice_get xs i ≡ Some x → o ≡ f x →
    done ++ filter_map f (drop i xs) ≡ whole → (done ++ listed o) ++ filter_map f (drop (i + 1) xs) ≡ whole
one_more f xs i x o done whole e p h =
    append_assoc done (listed o) (filter_map f (drop (i + 1) xs))
    ∙ (ap (λ cs. done ++ cs) (listed_append o (filter_map f (drop (i + 1) xs)) ∙ (ap (λ z. cons_option z (filter_map f (drop (i + 1) xs))) p
    ∙ (rw add-one refl ∙ sym (ap (filter_map f) (drop_at xs i x e))))) ∙ h)
