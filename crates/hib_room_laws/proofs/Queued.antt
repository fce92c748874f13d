-- What is kept by identifier in a list in two parts, of which the first one is turned round.
use Rattle.std.proofs.Common.{◌≡◌, ℕ, ◌-◌, ◌<◌, ◌≤◌, Bool, true, false, nat_eq, List, [], ◌∷◌, ◌++◌, length, reverse, slice_get, Some, None, Option, is_some, refl, sym, ap, ◌∙◌, arith}
use Rattle.std.specs.Prelude.{IsSome, drop}
use Rattle.std.specs.Option.{option_to_list}
use Rattle.std.specs.Map.{keys_of, lookup, remove_entry}
use Rattle.std.specs.List.{IsDistinct}
use Rattle.std.proofs.lemmas.Bool.{eqb-true}
use Rattle.std.proofs.lemmas.Option.{same_Some}
use Rattle.std.proofs.lemmas.List.{reverse-append, reverse-reverse, append-nil, append_assoc, length-append}
use Rattle.hib_turned.proofs.Turned.{or_else, lookup_joined, lookup_turned, removed_before, removed_behind, removed_turned, distinct_once}
use Rattle.hib_room_laws.specs.Order.{first_key}
use Rattle.hib_room_laws.specs.Queued.{queued}

module _ {V : Type 0} (i : ℕ) (f b : List (ℕ × V)) (d : IsDistinct nat_eq (keys_of f)) where
  front_lookup : lookup (nat_eq i) (reverse f) ≡ lookup (nat_eq i) f
  front_lookup = lookup_turned (nat_eq i) f (distinct_once nat_eq eqb-true i f d)

  pub lookup_queued : lookup (nat_eq i) (queued f b) ≡ or_else (lookup (nat_eq i) f) (lookup (nat_eq i) b)
  lookup_queued = lookup_joined (nat_eq i) (reverse f) b ∙ ap (λ o. or_else o (lookup (nat_eq i) b)) front_lookup

  pub removed_front : is_some (lookup (nat_eq i) f) ≡ true → remove_entry (nat_eq i) (queued f b) ≡ queued (remove_entry (nat_eq i) f) b
  removed_front s =
      removed_before (nat_eq i) (reverse f) b (ap is_some front_lookup ∙ s)
      ∙ ap (λ x. x ++ b) (removed_turned (nat_eq i) f (distinct_once nat_eq eqb-true i f d))

  pub removed_back : is_some (lookup (nat_eq i) f) ≡ false → remove_entry (nat_eq i) (queued f b) ≡ queued f (remove_entry (nat_eq i) b)
  removed_back s = removed_behind (nat_eq i) (reverse f) b (ap is_some front_lookup ∙ s)

  pub back_absent : lookup (nat_eq i) (queued f b) ≡ None → lookup (nat_eq i) b ≡ None
  back_absent n = by (lookup (nat_eq i) f) (sym lookup_queued ∙ n)
    where
      by : (o : Option V) → or_else o (lookup (nat_eq i) b) ≡ None → lookup (nat_eq i) b ≡ None
      by None h = h
      by (Some v) h = absurd (cc)

-- the first of all
pub queued_last : {X : Type 0} (f g b : List X) (e : X) → f ≡ g ++ e ∷ [] → queued f b ≡ e ∷ queued g b
queued_last f g b e p = ap (λ x. queued x b) p ∙ ap (λ x. x ++ b) (reverse-append g (e ∷ []))

pub queued_turned : {X : Type 0} (b : List X) → queued (reverse b) [] ≡ b
queued_turned b = append-nil (reverse (reverse b)) ∙ reverse-reverse b

pub queued_more : {X : Type 0} (f b : List X) (e : X) → queued f (b ++ e ∷ []) ≡ queued f b ++ e ∷ []
queued_more f b e = sym (append_assoc (reverse f) b (e ∷ []))

-- the first of all leaves
pub queued_popped : {X : Type 0} (f g b : List X) (o : Option X) → f ≡ g ++ option_to_list o → (0 < length f → IsSome o) → (f ≡ [] → b ≡ []) → queued g b ≡ drop 1 (queued f b)
queued_popped f g b (Some e) p s n = sym (ap (drop 1) (queued_last f g b e p))
queued_popped [] g b None p s n = let q : g ≡ [] = sym (p ∙ append-nil g) in rw (q, n refl) refl
queued_popped (x ∷ f) g b None p s n = let h : false ≡ true = s (omega arith) in absurd (cc)

last_is : {X : Type 0} (xs : List X) (x y : X) → slice_get (xs ++ x ∷ []) (length (xs ++ x ∷ []) - 1) ≡ Some y → x ≡ y
last_is xs x y h =
    let n : length (xs ++ x ∷ []) - 1 ≡ length xs = omega (arith, length-append xs (x ∷ [])) in
    same_Some x y (sym (at xs x) ∙ (rw n at h))
  where
    at : {X : Type 0} (xs : List X) (x : X) → slice_get (xs ++ x ∷ []) (length xs) ≡ Some x
    at [] x = refl
    at (y ∷ ys) x = at ys x

-- the key of the first of all
pub queued_first : {V : Type 0} (f b : List (ℕ × V)) (k : ℕ) (v : V) → slice_get f (length f - 1) ≡ Some (k, v) → first_key (queued f b) ≡ Some k
queued_first {V} f b k v h = by (reverse f) refl
  where
    by : (r : List (ℕ × V)) → reverse f ≡ r → first_key (queued f b) ≡ Some k
    by [] e =
        let n : f ≡ [] = sym (reverse-reverse f) ∙ ap reverse e in
        let x : None ≡ Some (k, v) = rw n at h in absurd (cc)
    by (x ∷ xs) e =
        let w : f ≡ reverse xs ++ x ∷ [] = sym (reverse-reverse f) ∙ ap reverse e ∙ reverse-append (x ∷ []) xs in
        let y : x ≡ (k, v) = last_is (reverse xs) x (k, v) (rw w at h) in
        ap (λ r. first_key (r ++ b)) e ∙ ap (λ p. Some p.0) y

pub queued_none : {V : Type 0} (f b : List (ℕ × V)) → length f ≤ 0 → first_key (queued f b) ≡ first_key b
queued_none [] b h = refl
queued_none (e ∷ f) b h = absurd (omega arith)
