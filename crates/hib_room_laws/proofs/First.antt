-- The first key by place, and the number of keys, from two lists with the same keys.
use Rattle.std.proofs.Common.{◌≡◌, ◌⊎◌, ℕ, inl, inr, Bool, true, false, cond, ◌||◌, ◌==◌, nat_eq, List, [], ◌∷◌, length, Option, Some, None, is_some, refl, sym, ap, ◌∙◌, subst, true≢false, eq-eqb}
use Rattle.std.specs.Map.{lookup, keys_of}
use Rattle.std.specs.Set.{is_member}
use Rattle.std.specs.List.{IsDistinct, list_any}
use Rattle.std.specs.Cmp.{nat_eq_equiv}
use Rattle.std.proofs.lemmas.Bool.{eqb-true, or_left}
use Rattle.std.proofs.lemmas.Map.Made.{length-from_same_keys, is_some-lookup}
use Rattle.std.proofs.lemmas.Map.Entries.{length-keys_of}
use Rattle.hib_base.proofs.Tables.{Tested, tested}
use Rattle.hib_journal.specs.Room.{is_earlier, earlier_of, first_placed}
use Rattle.hib_room_laws.specs.Order.{AreLater, IsInOrder, first_key}
use Rattle.hib_room_laws.proofs.Order.{earlier_back, order_distinct}

-- whether an identifier is among these
abbrev pub is_among : ℕ → List ℕ → Bool
is_among i ids = list_any (λ j. j == i) ids

-- the two ways to ask it
pub among_member : (i : ℕ) (ids : List ℕ) → is_among i ids ≡ is_member nat_eq ids i
among_member i [] = refl
among_member i (j ∷ ids) = ap (λ b. b || is_among i ids) (nat_eq_equiv.symm j i) ∙ ap (λ b. nat_eq i j || b) (among_member i ids)

-- two lists have the same keys
abbrev pub HaveSame : {X : Type 0} → List ℕ → List (ℕ × X) → Type 0
HaveSame ids es = (i : ℕ) → is_among i ids ≡ is_some (lookup (nat_eq i) es)

pub same_length : {X : Type 0} (place : ℕ → Option ℕ) (ids : List ℕ) (es : List (ℕ × X)) → IsDistinct nat_eq ids → IsInOrder place es → HaveSame ids es → length ids ≡ length es
same_length place ids es d h s =
    length-from_same_keys nat_eq_equiv ids (keys_of es) d (order_distinct place es h) (λ q. sym (among_member q ids) ∙ s q ∙ is_some-lookup (nat_eq q) es)
    ∙ length-keys_of es

-- i, or a key whose place is after that of i
abbrev IsFrom : (ℕ → Option ℕ) → ℕ → ℕ → Type 0
IsFrom place i j = (j ≡ i) ⊎ (is_earlier (place i) (place j) ≡ true)

abbrev AreFrom : (ℕ → Option ℕ) → ℕ → List ℕ → Type 0
AreFrom place i [] = Unit {0}
AreFrom place i (j ∷ ids) = IsFrom place i j × AreFrom place i ids

abbrev IsFirstFrom : (ℕ → Option ℕ) → ℕ → Option ℕ → Type 0
IsFirstFrom place i None = Unit {0}
IsFirstFrom place i (Some j) = IsFrom place i j

module _ (place : ℕ → Option ℕ) (i : ℕ) where
  chosen : (j : ℕ) (o : Option ℕ) → IsFrom place i j → IsFirstFrom place i o → IsFirstFrom place i (earlier_of place j o)
  chosen j None f g = f
  chosen j (Some k) f g = by (tested (is_earlier (place j) (place k)))
    where
      by : Tested (is_earlier (place j) (place k)) → IsFirstFrom place i (earlier_of place j (Some k))
      by (inl t) = rw t f
      by (inr t) = rw t g

  first_from : (ids : List ℕ) → AreFrom place i ids → IsFirstFrom place i (first_placed place ids)
  first_from [] h = tt
  first_from (j ∷ ids) h = chosen j (first_placed place ids) h.0 (first_from ids h.1)

  -- i before a later one
  kept : (o : Option ℕ) → IsFirstFrom place i o → earlier_of place i o ≡ Some i
  kept None f = refl
  kept (Some j) (inl e) = by (tested (is_earlier (place i) (place j)))
    where
      by : Tested (is_earlier (place i) (place j)) → earlier_of place i (Some j) ≡ Some i
      by (inl t) = rw t
      by (inr t) = rw t (ap Some e)
  kept (Some j) (inr e) = rw e

  -- a later one before i
  passed : (j : ℕ) → IsFrom place i j → earlier_of place j (Some i) ≡ Some i
  passed j (inl e) = by (tested (is_earlier (place j) (place i)))
    where
      by : Tested (is_earlier (place j) (place i)) → earlier_of place j (Some i) ≡ Some i
      by (inl t) = rw t (ap Some e)
      by (inr t) = rw t
  passed j (inr e) = rw (earlier_back (place i) (place j) e)

  first_is : (ids : List ℕ) → AreFrom place i ids → is_among i ids ≡ true → first_placed place ids ≡ Some i
  first_is [] h m = absurd (true≢false (sym m))
  first_is (j ∷ ids) h m = by (tested (j == i)) (first_is ids h.1)
    where
      by : Tested (j == i) → (is_among i ids ≡ true → first_placed place ids ≡ Some i) → first_placed place (j ∷ ids) ≡ Some i
      by (inl t) r = let e : j ≡ i = eqb-true j i t in subst (λ k. earlier_of place k (first_placed place ids) ≡ Some i) (sym e) (kept (first_placed place ids) (first_from ids h.1))
      by (inr t) r = let n : is_among i ids ≡ true = rw t at m in ap (earlier_of place j) (r n) ∙ passed j h.0

-- each identifier that passes a look-up of the rest is after the head
from_lookup : {X : Type 0} (place : ℕ → Option ℕ) (i j : ℕ) (es : List (ℕ × X)) → AreLater place (place i) es → is_some (lookup (nat_eq j) es) ≡ true → is_earlier (place i) (place j) ≡ true
from_lookup place i j [] h s = absurd (true≢false (sym s))
from_lookup place i j (e ∷ es) h s = by (tested (nat_eq j e.0)) (from_lookup place i j es h.1)
  where
    by : Tested (nat_eq j e.0) → (is_some (lookup (nat_eq j) es) ≡ true → is_earlier (place i) (place j) ≡ true) → is_earlier (place i) (place j) ≡ true
    by (inl t) r = ap (λ k. is_earlier (place i) (place k)) (eqb-true j e.0 t) ∙ h.0
    by (inr t) r = r (rw t at s)

module _ {X : Type 0} (place : ℕ → Option ℕ) (e : ℕ × X) (es : List (ℕ × X)) (order : IsInOrder place (e ∷ es)) where
  from_head : (j : ℕ) → is_some (lookup (nat_eq j) (e ∷ es)) ≡ true → IsFrom place e.0 j
  from_head j s = by (tested (nat_eq j e.0))
    where
      by : Tested (nat_eq j e.0) → IsFrom place e.0 j
      by (inl t) = inl (eqb-true j e.0 t)
      by (inr t) = inr (from_lookup place e.0 j es order.1 (rw t at s))

  all_from : (ids : List ℕ) → ((j : ℕ) → is_among j ids ≡ true → is_some (lookup (nat_eq j) (e ∷ es)) ≡ true) → AreFrom place e.0 ids
  all_from [] s = tt
  all_from (j ∷ ids) s = (
    from_head j (s j (or_left (j == j) (is_among j ids) (eq-eqb j j refl))),
    all_from ids (λ k m. s k (in_rest k m)),
  )
    where
      in_rest : (k : ℕ) → is_among k ids ≡ true → is_among k (j ∷ ids) ≡ true
      in_rest k m = by (j == k)
        where
          by : (b : Bool) → (b || is_among k ids) ≡ true
          by true = refl
          by false = m

-- the first by place is the first in order
pub first_in_order : {X : Type 0} (place : ℕ → Option ℕ) (ids : List ℕ) (es : List (ℕ × X)) → IsInOrder place es → HaveSame ids es → first_placed place ids ≡ first_key es
first_in_order place [] [] h s = refl
first_in_order place (i ∷ ids) [] h s = absurd (true≢false (sym (or_left (i == i) (is_among i ids) (eq-eqb i i refl)) ∙ s i))
first_in_order place ids (e ∷ es) h s =
    first_is place e.0 ids (all_from place e es h ids (λ j m. sym (s j) ∙ m))
    (s e.0 ∙ ap (λ b. is_some (cond b (Some e.1) (lookup (nat_eq e.0) es))) (eq-eqb e.0 e.0 refl))
