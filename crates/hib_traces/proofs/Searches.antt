-- A test that holds of the first places, and of no others.
use Rattle.std.proofs.Common.{◌≡◌, ◌≤◌, ◌<◌, ◌+◌, ℕ, Bool, true, false, List, length, get_or, subst, arith}
use Rattle.std.proofs.lemmas.List.{get_or_default}
use Rattle.hib_traces.specs.Places.{AreInOrder, IsUpTo}
use Rattle.hib_traces.specs.declared.places.Place.{Place}

module _ (test : Place → Bool) where
  pub all_before : ((p q : Place) → IsUpTo p q → test q ≡ true → test p ≡ true) → (ps : List Place) (n : ℕ) (e : Place) → AreInOrder ps → n < length ps →
      test (get_or ps n e) ≡ true → (k : ℕ) (d : Place) → k < n + 1 → test (get_or ps k d) ≡ true
  all_before f ps n e o m h k d l =
      f (get_or ps k d) (get_or ps n d) (o.each k n d (omega (arith, l)) m) (subst (λ (p : Place). test p ≡ true) (get_or_default ps n e d m) h)

  pub all_behind : ((p q : Place) → IsUpTo p q → test p ≡ false → test q ≡ false) → (ps : List Place) (n : ℕ) (e : Place) → AreInOrder ps →
      test (get_or ps n e) ≡ false → (k : ℕ) (d : Place) → n ≤ k → k < length ps → test (get_or ps k d) ≡ false
  all_behind f ps n e o h k d q l =
      f (get_or ps n d) (get_or ps k d) (o.each n k d q l) (subst (λ (p : Place). test p ≡ false) (get_or_default ps n e d (omega (arith, q, l))) h)
