-- The index of the regions, and one entry noted in the place that it names.
use Rattle.std.proofs.Common.{◌≡◌, ◌≢◌, ℕ, zero, suc, ◌<◌, ◌==◌, ◌⊎◌, inl, inr, true, false, List, [], ◌∷◌, ◌++◌, length, get_or, map, Some, None, Option, refl, ap, sym, ◌∙◌, subst, add-zero, arith}
use Rattle.std.specs.Prelude.{slice_get, slice_set}
use Rattle.std.specs.Option.{option_map}
use Rattle.std.specs.List.{All}
use Rattle.std.proofs.lemmas.Option.{slice_get-map, slice_get_within, get_or_from_slice_get}
use Rattle.std.proofs.lemmas.List.{map_push, length-map}
use Rattle.std.proofs.lemmas.Bool.{eq-eqb, eqb-true}
use Rattle.hib_base.proofs.Tables.{tested}
use Rattle.hib_base.proofs.Lists.{some_none, get_more}
use Rattle.hib_journal.specs.Types.{Key, Entry}
use Rattle.hib_journal.specs.Slot.{key_in}
use Rattle.hib_listeners.specs.Counts.{is_in, is_of}
use Rattle.hib_listeners.specs.Places.{IsIndex, place_in, or_none, entities}
use Rattle.hib_listeners.specs.Statistics.{noted_region, IsRegionBelow}
use Rattle.hib_listeners.specs.declared.counts.RegionCounts.{RegionCounts}

some_is : {A : Type 0} (x y : A) → Some x ≡ Some y → x ≡ y
some_is x y e = cc

-- the last of a list, and what stands before it

get_last : {A : Type 0} (xs : List A) (y : A) → slice_get (xs ++ y ∷ []) (length xs) ≡ Some y
get_last [] y = refl
get_last (x ∷ xs) y = get_last xs y

get_push : {A : Type 0} (xs : List A) (y x : A) (n : ℕ) → slice_get (xs ++ y ∷ []) n ≡ Some x → (slice_get xs n ≡ Some x) ⊎ ((n ≡ length xs) × (y ≡ x))
get_push [] y x zero e = inr (refl, some_is y x e)
get_push [] y x (suc n) e = absurd (cc)
get_push (z ∷ xs) y x zero e = inl e
get_push (z ∷ xs) y x (suc n) e = elim (get_push xs y x n e) [ inl h ↦ inl h | inr h ↦ inr (ap (λ m. suc m) h.0, h.1) ]

-- an entity more

indexed : (index : List (Option ℕ)) (es : List ℕ) → IsIndex index es → IsIndex (index ++ Some (length es) ∷ []) (es ++ length index ∷ [])
indexed index es g = λ n k. (there n k, back n k)
  where
    there : (n k : ℕ) → slice_get (index ++ Some (length es) ∷ []) n ≡ Some (Some k) → slice_get (es ++ length index ∷ []) k ≡ Some n
    there n k e =
        elim (get_push index (Some (length es)) (Some k) n e) [
          | inl h ↦ get_more es (length index ∷ []) k n ((g n k).0 h)
          | inr h ↦ rw (h.0, sym (some_is (length es) k h.1)) (get_last es (length index))
        ]

    back : (n k : ℕ) → slice_get (es ++ length index ∷ []) k ≡ Some n → slice_get (index ++ Some (length es) ∷ []) n ≡ Some (Some k)
    back n k e =
        elim (get_push es (length index) n k e) [
          | inl h ↦ get_more index (Some (length es) ∷ []) n (Some k) ((g n k).1 h)
          | inr h ↦ rw (sym h.1, h.0) (get_last index (Some (length es)))
        ]

pub indexed_with : (index : List (Option ℕ)) (places : List RegionCounts) (at : ℕ) (new : RegionCounts) → IsIndex index (entities places) → at ≡ length places → new.entity ≡ length index
    → IsIndex (index ++ Some at ∷ []) (entities (places ++ new ∷ []))
indexed_with index places at new g p q =
    let more : entities (places ++ new ∷ []) ≡ entities places ++ length index ∷ [] = map_push (λ (x : RegionCounts). x.entity) places new ∙ ap (λ n. entities places ++ n ∷ []) q in
    let here : at ≡ length (entities places) = p ∙ sym (length-map places (λ (x : RegionCounts). x.entity)) in
    rw (more, here) (indexed index (entities places) g)

pub not_indexed : (index : List (Option ℕ)) (es : List ℕ) → IsIndex index es → IsIndex (index ++ None ∷ []) es
not_indexed index es g = λ n k. (there n k, λ e. get_more index (None ∷ []) n (Some k) ((g n k).1 e))
  where
    there : (n k : ℕ) → slice_get (index ++ None ∷ []) n ≡ Some (Some k) → slice_get es k ≡ Some n
    there n k e =
        elim (get_push index None (Some k) n e) [
          | inl h ↦ (g n k).0 h
          | inr h ↦ absurd (some_none k (sym h.1))
        ]

-- one entry noted

-- an entry of another region
unmoved : (e : Entry) (c : RegionCounts) → is_in c.entity e.act ≡ false → noted_region e c ≡ c
unmoved e c h = rw h (simp add-zero refl)

mapped_same : {A : Type 0} (f : A → A) (xs : List A) → ((k : ℕ) (x : A) → slice_get xs k ≡ Some x → f x ≡ x) → map f xs ≡ xs
mapped_same f [] g = refl
mapped_same f (x ∷ xs) g = rw (g zero x refl) (ap (λ ys. x ∷ ys) (mapped_same f xs (λ k y e. g (suc k) y e)))

mapped_but : {A : Type 0} (f : A → A) (xs : List A) (at : ℕ) (d : A) → ((k : ℕ) (x : A) → k ≢ at → slice_get xs k ≡ Some x → f x ≡ x)
    → slice_set xs at (f (get_or xs at d)) ≡ map f xs
mapped_but f [] at d g = refl
mapped_but f (x ∷ xs) zero d g = ap (λ ys. f x ∷ ys) (sym (mapped_same f xs (λ k y e. g (suc k) y (λ h. cc) e)))
mapped_but f (x ∷ xs) (suc at) d g = rw (g zero x (λ h. cc) refl) (ap (λ ys. x ∷ ys) (mapped_but f xs at d (λ k y n e. g (suc k) y (λ h. n (omega arith)) e)))

-- the place of a key's entity

key_at : (index : List (Option ℕ)) (o : Option Key) (at : ℕ) → place_in index o ≡ Some at → (k : Key) × (o ≡ Some k) × (slice_get index k.entity ≡ Some (Some at))
key_at index None at h = absurd (cc)
key_at index (Some k) at h = (k, refl, inner (slice_get index k.entity) h)
  where
    inner : (o : Option (Option ℕ)) → or_none o ≡ Some at → o ≡ Some (Some at)
    inner None h = absurd (cc)
    inner (Some o) h = ap (λ p. Some p) h

-- whose entry it is
in_place : (e : Entry) (k : Key) (n : ℕ) → key_in e.act ≡ Some k → is_in n e.act ≡ (k.entity == n)
in_place e k n h = ap (λ o. is_of n o) h

elsewhere : (k : ℕ) (n : ℕ) → (k ≡ n → ⊥) → (k == n) ≡ false
elsewhere k n ne = elim (tested (k == n)) [ inl t ↦ absurd (ne (eqb-true k n t)) | inr t ↦ t ]

-- the place that the index names is of the entry's entity
place_is : (index : List (Option ℕ)) (xs : List RegionCounts) (e : Entry) (at : ℕ) → IsIndex index (entities xs) → place_in index (key_in e.act) ≡ Some at
    → (c : RegionCounts) × (slice_get xs at ≡ Some c) × (is_in c.entity e.act ≡ true)
place_is index xs e at g h = at_key (key_at index (key_in e.act) at h)
  where
    at_place : (k : Key) (o : Option RegionCounts) → slice_get xs at ≡ o → option_map (λ c. c.entity) o ≡ Some k.entity → key_in e.act ≡ Some k
        → (c : RegionCounts) × (slice_get xs at ≡ Some c) × (is_in c.entity e.act ≡ true)
    at_place k None q h i = absurd (some_none k.entity (sym h))
    at_place k (Some c) q h i = (c, q, in_place e k c.entity i ∙ eq-eqb k.entity c.entity (sym (some_is c.entity k.entity h)))

    at_key : (k : Key) × (key_in e.act ≡ Some k) × (slice_get index k.entity ≡ Some (Some at)) → (c : RegionCounts) × (slice_get xs at ≡ Some c) × (is_in c.entity e.act ≡ true)
    at_key p = at_place p.0 (slice_get xs at) refl (sym (slice_get-map (λ (c : RegionCounts). c.entity) xs at) ∙ (g p.0.entity at).0 p.2) p.1

pub place_within : (index : List (Option ℕ)) (xs : List RegionCounts) (e : Entry) (at : ℕ) → IsIndex index (entities xs) → place_in index (key_in e.act) ≡ Some at → at < length xs
place_within index xs e at g h = let p = place_is index xs e at g h in slice_get_within xs at p.0 p.1

pub place_here : (index : List (Option ℕ)) (xs : List RegionCounts) (e : Entry) (at : ℕ) (c : RegionCounts) → IsIndex index (entities xs) → place_in index (key_in e.act) ≡ Some at
    → c ≡ get_or xs at c → is_in c.entity e.act ≡ true
place_here index xs e at c g h q =
    let p = place_is index xs e at g h in
    let same : c ≡ p.0 = q ∙ get_or_from_slice_get xs at p.0 c p.1 in
    rw same p.2

pub place_below : (index : List (Option ℕ)) (xs seen : List RegionCounts) (e : Entry) (at m : ℕ) (c : RegionCounts) → IsIndex index (entities xs) → place_in index (key_in e.act) ≡ Some at
    → c ≡ get_or xs at c → xs ≡ seen → All (IsRegionBelow m) seen → IsRegionBelow m c
place_below index xs seen e at m c g h q same all =
    let below : All (IsRegionBelow m) xs = subst (λ (cs : List RegionCounts). All (IsRegionBelow m) cs) (sym same) all in
    subst (λ (r : RegionCounts). IsRegionBelow m r) (sym q) (below at c (place_within index xs e at g h))

-- and no other place is
pub noted_at : (index : List (Option ℕ)) (xs : List RegionCounts) (e : Entry) (at : ℕ) (d : RegionCounts) → IsIndex index (entities xs) → place_in index (key_in e.act) ≡ Some at
    → slice_set xs at (noted_region e (get_or xs at d)) ≡ map (noted_region e) xs
noted_at index xs e at d g h = at_key (key_at index (key_in e.act) at h)
  where
    at_key : (k : Key) × (key_in e.act ≡ Some k) × (slice_get index k.entity ≡ Some (Some at)) → slice_set xs at (noted_region e (get_or xs at d)) ≡ map (noted_region e) xs
    at_key p = mapped_but (noted_region e) xs at d others
      where
        others : (j : ℕ) (c : RegionCounts) → j ≢ at → slice_get xs j ≡ Some c → noted_region e c ≡ c
        others j c ne q = unmoved e c (in_place e p.0 c.entity p.1 ∙ elsewhere p.0.entity c.entity apart)
          where
            apart : p.0.entity ≡ c.entity → ⊥
            apart s =
                let here : slice_get (entities xs) j ≡ Some c.entity = slice_get-map (λ (x : RegionCounts). x.entity) xs j ∙ ap (λ o. option_map (λ (x : RegionCounts). x.entity) o) q in
                let named : slice_get index c.entity ≡ Some (Some j) = (g c.entity j).1 here in
                let too : slice_get index c.entity ≡ Some (Some at) = subst (λ n. slice_get index n ≡ Some (Some at)) s p.2 in
                ne (some_is j at (some_is (Some j) (Some at) (sym named ∙ too)))

-- if no place is of it
pub noted_nowhere : (index : List (Option ℕ)) (xs : List RegionCounts) (e : Entry) → IsIndex index (entities xs) → place_in index (key_in e.act) ≡ None
    → map (noted_region e) xs ≡ xs
noted_nowhere index xs e g h = mapped_same (noted_region e) xs (λ j c q. unmoved e c (not_in j c q (key_in e.act) refl h))
  where
    not_in : (j : ℕ) (c : RegionCounts) → slice_get xs j ≡ Some c → (o : Option Key) → key_in e.act ≡ o → place_in index o ≡ None → is_in c.entity e.act ≡ false
    not_in j c q None i h = ap (λ o. is_of c.entity o) i
    not_in j c q (Some k) i h = in_place e k c.entity i ∙ elsewhere k.entity c.entity apart
      where
        apart : k.entity ≡ c.entity → ⊥
        apart s =
            let here : slice_get (entities xs) j ≡ Some c.entity = slice_get-map (λ (x : RegionCounts). x.entity) xs j ∙ ap (λ o. option_map (λ (x : RegionCounts). x.entity) o) q in
            let named : slice_get index c.entity ≡ Some (Some j) = (g c.entity j).1 here in
            some_none j (sym (ap (λ o. or_none o) (subst (λ n. slice_get index n ≡ Some (Some j)) (sym s) named)) ∙ h)

-- the places keep their entities
pub same_entities : (e : Entry) (xs : List RegionCounts) → entities (map (noted_region e) xs) ≡ entities xs
same_entities e [] = refl
same_entities e (x ∷ xs) = ap (λ ns. x.entity ∷ ns) (same_entities e xs)
