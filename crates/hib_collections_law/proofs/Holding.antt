-- Who holds an owner, as a list and by counting.
use Rattle.std.specs.Prelude.{map}
use Rattle.std.proofs.Common.{◌≡◌, ℕ, zero, suc, inl, inr, true, ◌==◌, List, [], ◌∷◌, slice_get, Some, refl, ap, arith, eq-eqb}
use Rattle.std.proofs.lemmas.Bool.{false≢true, eqb-true}
use Rattle.hib_base.proofs.Tables.{Tested, tested}
use Rattle.hib_law.proofs.Guarded.{In}
use Rattle.hib_law.proofs.Basics.{none_some, some_same}
use Rattle.hib_collections_law.specs.Types.{Def}
use Rattle.hib_collections_law.specs.Gathered
use Rattle.hib_collections_law.specs.Gathered.{Due, plain, mended, due_in, hit_in, mine, listed, locks_in, is_locked, same_pair, regions, region_entry, region_act, region_script, region_def, IsPlainStep, IsMemberStep, IsGathered}
use Rattle.hib_collections_law.proofs.Held.{times, pairs}

pub times_in : (s : ℕ) (xs : List ℕ) → (times s xs ≡ 0 → ⊥) → In s xs
times_in s [] f = absurd (f refl)
times_in s (x ∷ xs) f = by_test (tested (x == s)) (times_in s xs)
  where
    by_test : Tested (x == s) → ((times s xs ≡ 0 → ⊥) → In s xs) → In s (x ∷ xs)
    by_test (inl p) i = inl (eqb-true x s p)
    by_test (inr p) i = inr (i (λ z. f (rw p z)))

pub in_times : (s : ℕ) (xs : List ℕ) → In s xs → times s xs ≡ 0 → ⊥
in_times s [] i e = i
in_times s (x ∷ xs) (inl p) e = let z : suc (times s xs) ≡ 0 = rw (eq-eqb x s p) at e in omega arith
in_times s (x ∷ xs) (inr i) e = by_test (tested (x == s)) e (in_times s xs i)
  where
    by_test : Tested (x == s) → times s (x ∷ xs) ≡ 0 → (times s xs ≡ 0 → ⊥) → ⊥
    by_test (inl p) e f = let z : suc (times s xs) ≡ 0 = rw p at e in omega arith
    by_test (inr p) e f = f (rw p at e)

pub locked_pairs : (p : ℕ × ℕ) (hs : List Gathered.Held) → is_locked hs p ≡ true → pairs p hs ≡ 0 → ⊥
locked_pairs p [] e z = false≢true e
locked_pairs p (h ∷ hs) e z = by_test (tested (same_pair h.0 p)) e z (locked_pairs p hs)
  where
    by_test : Tested (same_pair h.0 p) → is_locked (h ∷ hs) p ≡ true → pairs p (h ∷ hs) ≡ 0 → (is_locked hs p ≡ true → pairs p hs ≡ 0 → ⊥) → ⊥
    by_test (inl q) e z f = let y : suc (pairs p hs) ≡ 0 = rw q at z in omega arith
    by_test (inr q) e z f = f (rw q at e) (rw q at z)

-- the definition of a collection, read as an entity
pub slice_map : (defs : List Def) (n : ℕ) (d : Def) → slice_get defs n ≡ Some d → slice_get (map region_def defs) n ≡ Some (region_def d)
slice_map [] n d e = none_some e
slice_map (x ∷ ds) zero d e = ap (λ z. Some (region_def z)) (some_same e)
slice_map (x ∷ ds) (suc n) d e = slice_map ds n d e
