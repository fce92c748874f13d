-- Instances that stand from the last to the first.
use Rattle.std.proofs.Common.{◌≡◌, ℕ, ◌-◌, zero, suc, ◌<◌, Bool, true, false, not, cond, List, [], ◌∷◌, length, reverse, slice_get, get_or, Some, refl, sym, ap, ◌∙◌, arith}
use Rattle.std.specs.Map.{keys_of, lookup, remove_entry}
use Rattle.std.specs.List.{IsDistinct}
use Rattle.std.proofs.lemmas.List.{reverse-reverse, length-reverse, get_or-reverse}
use Rattle.hib_base.specs.Keys.{same_key}
use Rattle.hib_base.proofs.Tables.{same_key_eq}
use Rattle.hib_journal.specs.Types.{Key}
use Rattle.hib_turned.proofs.Turned.{lookup_turned, removed_turned, distinct_once}
use Rattle.hib_identity_map.specs.Identity.{Pairs, faced, look_in, drop_in}
use Rattle.hib_identity_map.proofs.Entries.{look_same}

pub length_faced : (t : Bool) (ps : Pairs) → length (faced t ps) ≡ length ps
length_faced true ps = length-reverse ps
length_faced false ps = refl

pub faced_turned : (t : Bool) (ps : Pairs) → faced (not t) (reverse ps) ≡ faced t ps
faced_turned true ps = refl
faced_turned false ps = reverse-reverse ps

pub look_faced : (t : Bool) (k : Key) (ps : Pairs) → IsDistinct same_key (keys_of ps) → lookup (same_key k) ps ≡ look_in (faced t ps) k
look_faced true k ps d = sym (lookup_turned (same_key k) ps (distinct_once same_key same_key_eq k ps d)) ∙ look_same k (reverse ps)
look_faced false k ps d = look_same k ps

drop_same : (k : Key) (ps : Pairs) → remove_entry (same_key k) ps ≡ drop_in k ps
drop_same k [] = refl
drop_same k (p ∷ ps) = ap (λ x. cond (same_key k p.0) ps (p ∷ x)) (drop_same k ps)

pub drop_faced : (t : Bool) (k : Key) (ps : Pairs) → IsDistinct same_key (keys_of ps) → faced t (remove_entry (same_key k) ps) ≡ drop_in k (faced t ps)
drop_faced true k ps d = sym (removed_turned (same_key k) ps (distinct_once same_key same_key_eq k ps d)) ∙ drop_same k (reverse ps)
drop_faced false k ps d = drop_same k ps

got : {A : Type 0} (xs : List A) (i : ℕ) (d : A) → i < length xs → slice_get xs i ≡ Some (get_or xs i d)
got [] i d h = absurd (omega arith)
got (x ∷ xs) zero d h = refl
got (x ∷ xs) (suc i) d h = got xs i d (omega arith)

pub got_turned : {A : Type 0} (xs : List A) (i : ℕ) → i < length xs → slice_get (reverse xs) i ≡ slice_get xs (length xs - 1 - i)
got_turned [] i h = absurd (omega arith)
got_turned (x ∷ xs) i h =
    got (reverse (x ∷ xs)) i x (omega (arith, length-reverse (x ∷ xs), h)) ∙ ap Some (get_or-reverse (x ∷ xs) i x h) ∙ sym (got (x ∷ xs) (length (x ∷ xs) - 1 - i) x (omega arith))
