-- The regions of the cached entities, one after the other.
use Rattle.std.proofs.Common.{◌≡◌, ◌<◌, ◌+◌, ◌-◌, ℕ, zero, suc, Bool, true, false, List, [], ◌∷◌, ◌++◌, map, set, get_or, Some, refl, sym, ap, ◌∙◌, subst}
use Rattle.std.proofs.lemmas.List.{map-append}
use Rattle.std.proofs.lemmas.List.Elements.{All-nil, All-cons, All-append}
use Rattle.std.specs.List.{All, filter, range_with_len}
use Rattle.std.specs.Prelude.{slice_get}
use Rattle.std.specs.Option.{option_map_or}
use Rattle.hib_journal.specs.Types.{EntityDef, Script}
use Rattle.hib_journal.specs.Sessions.{Journal}
use Rattle.hib_journal.specs.Next.{strategy, strategy_in, capacity}
use Rattle.hib_engines.specs.declared.region.Region.{Region}
use Rattle.hib_engines.specs.Laws.{Laws}
use Rattle.hib_engines.specs.Region.{empty, IsPlaced}
use Rattle.hib_engines.proofs.Grows.{begins}
use Rattle.hib_engines.proofs.QueryTables.{tables_more, tables_skip}
use Rattle.hib_parts.specs.Listed.{RegionState}

abbrev pub entities : List RegionState → List ℕ
entities rs = map (λ r. r.entity) rs

pub regions_more : (p : ℕ → Bool) (i n : ℕ) (xs ys : List RegionState) (y : RegionState) (whole : List ℕ) → i < n → entities xs ++ filter p (range_with_len i (n - i)) ≡ whole → p i ≡ true → ys ≡ xs ++ y ∷ [] → y.entity ≡ i →
    entities ys ++ filter p (range_with_len (i + 1) (n - (i + 1))) ≡ whole
regions_more p i n xs ys y whole l h q e v =
    subst (λ zs. zs ++ filter p (range_with_len (i + 1) (n - (i + 1))) ≡ whole) (sym same) (tables_more p i n (entities xs) whole l h q)
  where
    same : entities ys ≡ entities xs ++ i ∷ []
    same = ap entities e ∙ (map-append (λ r. r.entity) xs (y ∷ []) ∙ ap (λ k. entities xs ++ k ∷ []) v)

abbrev pub AreEmpty : List RegionState → Type 0
AreEmpty rs = All (λ r. r.list ≡ []) rs

pub empty_more : (xs ys : List RegionState) (y : RegionState) → AreEmpty xs → ys ≡ xs ++ y ∷ [] → y.list ≡ [] → AreEmpty ys
empty_more xs ys y h e v = subst AreEmpty (sym e) (All-append (λ r. r.list ≡ []) xs (y ∷ []) h (All-cons (λ r. r.list ≡ []) y [] v (All-nil (λ r. r.list ≡ []))))

-- a region that holds nothing
pub region_begins : Laws → (said script : Script) (n i : ℕ) (d : EntityDef) (l : Journal) (x : Region) → said ≡ script → l ≡ [] → i ≡ n → slice_get said.mapping i ≡ Some d → x ≡ empty d.strategy d.capacity said.timeout → IsPlaced script n l x
region_begins laws said script n i d l x q e v p h = subst (λ j. IsPlaced script n j x) (sym e) (subst (λ z. IsPlaced script n [] z) (sym same) (begins laws script n (strategy script n) refl))
  where
    same : x ≡ empty (strategy script n) (capacity script n) script.timeout
    same = h ∙ (sym (ap (λ o. empty (strategy_in o) (option_map_or (λ d. d.capacity) o 0) said.timeout) p) ∙ (ap (λ m. empty (strategy_in (slice_get said.mapping m)) (option_map_or (λ d. d.capacity) (slice_get said.mapping m) 0) said.timeout) v
        ∙ ap (λ (s : Script). empty (strategy_in (slice_get s.mapping n)) (option_map_or (λ d. d.capacity) (slice_get s.mapping n) 0) s.timeout) q))

pub regions_skip : (p : ℕ → Bool) (i n : ℕ) (xs ys : List RegionState) (whole : List ℕ) → i < n → entities xs ++ filter p (range_with_len i (n - i)) ≡ whole → p i ≡ false → ys ≡ xs → entities ys ++ filter p (range_with_len (i + 1) (n - (i + 1))) ≡ whole
regions_skip p i n xs ys whole l h q e = subst (λ zs. entities zs ++ filter p (range_with_len (i + 1) (n - (i + 1))) ≡ whole) (sym e) (tables_skip p i n (entities xs) whole l h q)

pub empty_same : (xs ys : List RegionState) → AreEmpty xs → ys ≡ xs → AreEmpty ys
empty_same xs ys h e = subst AreEmpty (sym e) h

-- the entities stay where a region does
pub same_entities : {R : Type 0} (f : R → ℕ) (xs : List R) (i : ℕ) (x y : R) → x ≡ get_or xs i x → f y ≡ f x → map f (set xs i y) ≡ map f xs
same_entities f [] i x y e q = refl
same_entities f (z ∷ xs) zero x y e q = ap (λ n. n ∷ map f xs) (q ∙ ap f e)
same_entities f (z ∷ xs) (suc i) x y e q = ap (λ ns. f z ∷ ns) (same_entities f xs i x y e q)
