-- A search by halves for the place of a key.
use Rattle.std.proofs.Common.{◌≡◌, inl, inr, ℕ, zero, suc, ◌+◌, ◌<◌, ◌≤◌, Bool, true, false, cond, [], ◌∷◌, length, take, drop, get_or, Ok, Err, Result, refl, sym, ap, ◌∙◌, subst, arith, add-one}
use Rattle.std.proofs.lemmas.Bool.{both_ways}
use Rattle.std.proofs.lemmas.List.{drop_all}
use Rattle.hib_base.specs.Keys.{same_key, is_before}
use Rattle.hib_base.specs.Tables.{Tables, is_first, in_order}
use Rattle.hib_base.proofs.Tables.{same_key_refl, same_key_eq, Tested, tested}
use Rattle.hib_outside.specs.Types.{Key, Row}
use Rattle.hib_outside.specs.Places.{one_further, place_in}
use Rattle.hib_outside.proofs.Orders.{is_before_self, is_before_trans, is_before_total, rest_in_order}
use Rattle.hib_outside.proofs.Places.{further}

-- a key that comes before another neither is the other nor comes after it
pub record IsEarlier (a b : Key) : Type 0 where
  pub differs : same_key a b ≡ false
  pub not_after : is_before b a ≡ false

pub earlier : (a b : Key) → is_before a b ≡ true → IsEarlier a b
earlier a b h = record { differs = by_same (tested (same_key a b)); not_after = by_after (tested (is_before b a)) }
  where
    by_same : Tested (same_key a b) → same_key a b ≡ false
    by_same (inl p) = is_before_self a (subst (λ k. is_before a k ≡ true) (sym (same_key_eq a b p)) h) (same_key a b ≡ false)
    by_same (inr p) = p

    by_after : Tested (is_before b a) → is_before b a ≡ false
    by_after (inl p) = is_before_self a (is_before_trans a b a h p) (is_before b a ≡ false)
    by_after (inr p) = p

-- of two keys one comes first
pub comes_after : (a b : Key) → same_key a b ≡ false → is_before a b ≡ false → is_before b a ≡ true
comes_after a b d n = at (tested (same_key b a))
  where
    at : Tested (same_key b a) → is_before b a ≡ true
    at (inl p) =
        absurd (both_ways (same_key a b) d (subst (λ k. same_key a k ≡ true) (sym (same_key_eq b a p)) (same_key_refl a)))
    at (inr p) = is_before_total b a p n

-- the first key comes before each other
pub first_before : (j : Key) (t : Tables) (n : ℕ) (d : Key × Row) → is_first j t ≡ true → in_order t ≡ true → n < length t → is_before j (get_or t n d).0 ≡ true
first_before j [] n d f o l = absurd (omega arith)
first_before j (e ∷ es) zero d f o l = f
first_before j (e ∷ es) (suc n) d f o l =
    let p : (is_first e.0 es ≡ true) × (in_order es ≡ true) = rest_in_order e es o in
    is_before_trans j e.0 (get_or es n d).0 f (first_before e.0 es n d p.0 p.1 (omega arith))

one_further_is : (p : Result ℕ ℕ) → one_further p ≡ further (suc zero) p
one_further_is (Ok i) = ap Ok (omega arith)
one_further_is (Err i) = ap Err (omega arith)

one_further_more : (n : ℕ) (p : Result ℕ ℕ) → one_further (further n p) ≡ further (suc n) p
one_further_more n (Ok i) = ap Ok (omega arith)
one_further_more n (Err i) = ap Err (omega arith)

-- if the first key comes before the one that is sought, it is sought among the rest
past_first : (e : Key × Row) (es : Tables) (k : Key) → is_before e.0 k ≡ true → place_in (e ∷ es) k ≡ one_further (place_in es k)
past_first e es k h = let x : IsEarlier e.0 k = earlier e.0 k h in rw (x.differs, x.not_after) refl

-- if the key at a place comes before the one that is sought, it is sought among those after the place
pub place_behind : (t : Tables) (k : Key) (n : ℕ) (d : Key × Row) → in_order t ≡ true → n < length t → is_before (get_or t n d).0 k ≡ true
    → place_in t k ≡ further (suc n) (place_in (drop (suc n) t) k)
place_behind [] k n d o l h = absurd (omega arith)
place_behind (e ∷ es) k zero d o l h = past_first e es k h ∙ one_further_is (place_in es k)
place_behind (e ∷ es) k (suc n) d o l h =
    let p : (is_first e.0 es ≡ true) × (in_order es ≡ true) = rest_in_order e es o in
    let within : n < length es = omega arith in
    past_first e es k (is_before_trans e.0 (get_or es n d).0 k (first_before e.0 es n d p.0 p.1 within) h)
    ∙ ap one_further (place_behind es k n d p.1 within h)
    ∙ one_further_more (suc n) (place_in (drop (suc n) es) k)

pub place_after : (t : Tables) (k : Key) (n : ℕ) (d : Key × Row) → in_order t ≡ true → n < length t → is_before (get_or t n d).0 k ≡ true
    → place_in t k ≡ further (n + 1) (place_in (drop (n + 1) t) k)
place_after t k n d o l h = place_behind t k n d o l h ∙ ap (λ j. further j (place_in (drop j t) k)) (sym (add-one n))

-- if the last key comes before the one that is sought, that belongs behind all
pub place_last : (t : Tables) (k : Key) (n : ℕ) (d : Key × Row) → in_order t ≡ true → n + 1 ≡ length t → is_before (get_or t n d).0 k ≡ true → place_in t k ≡ Err (length t)
place_last t k n d o e h =
    let rest : drop (n + 1) t ≡ [] = drop_all (n + 1) t (omega (arith, e)) in
    place_after t k n d o (omega (arith, e)) h ∙ (ap (λ u. further (n + 1) (place_in u k)) rest ∙ ap Err (omega (arith, e)))

-- if the key that is sought comes before the one at a place, it is sought among those before the place
pub place_ahead : (t : Tables) (k : Key) (n : ℕ) (d : Key × Row) → n < length t → is_before k (get_or t n d).0 ≡ true → place_in t k ≡ place_in (take n t) k
place_ahead [] k n d l h = absurd (omega arith)
place_ahead (e ∷ es) k zero d l h = at (tested (same_key e.0 k))
  where
    at : Tested (same_key e.0 k) → place_in (e ∷ es) k ≡ Err 0
    at (inl p) = is_before_self k (subst (λ j. is_before k j ≡ true) (same_key_eq e.0 k p) h) (place_in (e ∷ es) k ≡ Err 0)
    at (inr p) = rw (p, h) refl
place_ahead (e ∷ es) k (suc n) d l h =
    ap (λ p. cond (same_key e.0 k) (Ok 0) (cond (is_before k e.0) (Err 0) (one_further p))) (place_ahead es k n d (omega arith) h)

pub place_found : (t : Tables) (k : Key) (n : ℕ) (d : Key × Row) → in_order t ≡ true → n < length t → same_key (get_or t n d).0 k ≡ true → place_in t k ≡ Ok n
place_found [] k n d o l h = absurd (omega arith)
place_found (e ∷ es) k zero d o l h = rw h refl
place_found (e ∷ es) k (suc n) d o l h =
    let p : (is_first e.0 es ≡ true) × (in_order es ≡ true) = rest_in_order e es o in
    let within : n < length es = omega arith in
    let before : is_before e.0 k ≡ true = subst (λ j. is_before e.0 j ≡ true) (same_key_eq (get_or es n d).0 k h) (first_before e.0 es n d p.0 p.1 within) in
    past_first e es k before ∙ ap one_further (place_found es k n d p.1 within h)

abbrev IsWithin : ℕ → Result ℕ ℕ → Type 0
IsWithin n (Ok i) = i < n
IsWithin n (Err i) = i ≤ n

within_further : (n : ℕ) (p : Result ℕ ℕ) → IsWithin n p → IsWithin (suc n) (one_further p)
within_further n (Ok i) h = omega arith
within_further n (Err i) h = omega arith

place_within : (t : Tables) (k : Key) (n : ℕ) → IsWithin n (place_in (take n t) k)
place_within t k zero = omega arith
place_within [] k (suc n) = omega arith
place_within (e ∷ es) k (suc n) = at (same_key e.0 k) (is_before k e.0) (within_further n (place_in (take n es) k) (place_within es k n))
  where
    at : (a b : Bool) → IsWithin (suc n) (one_further (place_in (take n es) k)) → IsWithin (suc n) (cond a (Ok 0) (cond b (Err 0) (one_further (place_in (take n es) k))))
    at true b h = omega arith
    at false true h = omega arith
    at false false h = h

ends_at : (n : ℕ) (p q : Result ℕ ℕ) → q ≡ further n p → IsWithin n q → q ≡ Err n
ends_at n (Ok i) (Ok j) e h = let f : j ≡ n + i = cc in absurd (omega arith)
ends_at n (Ok i) (Err j) e h = cc
ends_at n (Err i) (Ok j) e h = cc
ends_at n (Err i) (Err j) e h = let f : j ≡ n + i = cc in ap Err (omega arith)

-- if nothing is left between the two ends, the key belongs there
pub place_between : (t : Tables) (k : Key) (low high : ℕ) → high ≤ low → low ≤ high → place_in t k ≡ further low (place_in (drop low t) k)
    → place_in t k ≡ place_in (take high t) k → Err low ≡ place_in t k
place_between t k low high a b f h =
    let e : high ≡ low = omega arith in
    let inside : IsWithin low (place_in t k) = subst (IsWithin low) (sym (h ∙ ap (λ n. place_in (take n t) k) e)) (place_within t k low) in
    sym (ends_at low (place_in (drop low t) k) (place_in t k) f inside)
