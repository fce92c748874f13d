-- Lists with one more at their end.
use Rattle.std.specs.Prelude.{slice_get}
use Rattle.std.proofs.Common.{◌≡◌, ◌⊎◌, ℕ, zero, suc, List, [], ◌∷◌, ◌++◌, length, Some, None, Option, refl, ap, sym, inl, inr}

some_same : {A : Type 0} (x z : A) → Some x ≡ Some z → x ≡ z
some_same x z e = cc

-- what stands in such a list stood there before, or is the last
pub at_end : {A : Type 0} (xs : List A) (y : A) (s : ℕ) (z : A) → slice_get (xs ++ y ∷ []) s ≡ Some z → (slice_get xs s ≡ Some z) ⊎ ((s ≡ length xs) × (z ≡ y))
at_end [] y zero z p = inr (refl, sym (some_same y z p))
at_end {A} [] y (suc s) z p = absurd (none_some p)
  where
    none_some : ◌≡◌ {A = Option A} None (Some z) → ⊥
    none_some e = cc
at_end (x ∷ xs) y zero z p = inl p
at_end {A} (x ∷ xs) y (suc s) z p = more (at_end xs y s z p)
  where
    more : (slice_get xs s ≡ Some z) ⊎ ((s ≡ length xs) × (z ≡ y)) → (slice_get xs s ≡ Some z) ⊎ ((suc s ≡ suc (length xs)) × (z ≡ y))
    more (inl q) = inl q
    more (inr q) = inr (ap suc q.0, q.1)
