-- The places of names.
use Rattle.std.proofs.Common.{◌≡◌, ℕ, ◌<◌, ◌≤◌, Bool, true, false, cond, nat_lt, List, length, Option, Some, None, refl, subst, arith}
use Rattle.std.specs.List.{list_any, position_or_len}
use Rattle.std.specs.Prelude.{option_and_then, position}
use Rattle.std.proofs.lemmas.Bool.{lt-ltb, ltb-true, ltb-false}
use Rattle.hib_base.proofs.Gives.{Then}
use Rattle.hib_base.proofs.Lists.{position_below, some_none}
use Rattle.hib_base.proofs.Names.{none_found}
use Rattle.hib_mapping.specs.Parts.{small}

small_below : (n i : ℕ) → i < n → Then (small i) (λ j. nat_lt j n ≡ true)
small_below n i h = by_test (nat_lt i 65536)
  where
    by_test : (b : Bool) → Then (cond b (Some i) None) (λ j. nat_lt j n ≡ true)
    by_test true = lt-ltb i n h
    by_test false = tt

-- what is found stands in the list
pub placed : {A : Type 0} (p : A → Bool) (xs : List A) → Then (option_and_then small (position p xs)) (λ i. nat_lt i (length xs) ≡ true)
placed p xs = by_place (position p xs) refl
  where
    by_place : (o : Option ℕ) → position p xs ≡ o → Then (option_and_then small o) (λ i. nat_lt i (length xs) ≡ true)
    by_place None e = tt
    by_place (Some i) e = small_below (length xs) i (position_below p xs i e)

-- what isn't found among few is none of them
pub unplaced : {A : Type 0} (p : A → Bool) (xs : List A) → length xs ≤ 64 → option_and_then small (position p xs) ≡ None → list_any p xs ≡ false
unplaced p xs few e = by_test (nat_lt (position_or_len p xs) (length xs)) refl e
  where
    too_small : (i : ℕ) → i < 65536 → small i ≡ None → ⊥
    too_small i l f = some_none i (subst (λ b. cond b (Some i) None ≡ None) (lt-ltb i 65536 l) f)

    by_test : (b : Bool) → nat_lt (position_or_len p xs) (length xs) ≡ b → option_and_then small (cond b (Some (position_or_len p xs)) None) ≡ None → list_any p xs ≡ false
    by_test true h f = let l : position_or_len p xs < length xs = ltb-true (position_or_len p xs) (length xs) h in absurd (too_small (position_or_len p xs) (omega (arith, l, few)) f)
    by_test false h f = none_found p xs (ltb-false (position_or_len p xs) (length xs) h)
