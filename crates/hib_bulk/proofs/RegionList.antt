-- The regions of a script's entities, by their places.
use Rattle.std.proofs.Common.{◌≡◌, ◌≢◌, ℕ, ◌≤◌, ◌<◌, ◌==◌, List, length, get_or, Some, sym, ap, ◌∙◌, subst}
use Rattle.std.proofs.lemmas.Bool.{true≢false}
use Rattle.std.proofs.lemmas.List.{get_or-set_same, get_or-set_other, length-set}
use Rattle.std.proofs.lemmas.Option.{unwrap_or-slice_get, slice_get_past, slice_get-get_or}
use Rattle.std.specs.Prelude.{slice_set, unwrap_or}
use Rattle.hib_engines.proofs.Bridge.{self_by}
use Rattle.hib_bulk.specs.declared.region.EntityRegion.{EntityRegion}
use Rattle.hib_bulk.specs.Regions.{region_of, IsAtRegion}

region_is : (xs : List EntityRegion) (n : ℕ) → region_of xs n ≡ get_or xs n EntityRegion.Uncached
region_is xs n = unwrap_or-slice_get xs n EntityRegion.Uncached

region_same : (xs : List EntityRegion) (n : ℕ) (y : EntityRegion) → n < length xs → region_of (slice_set xs n y) n ≡ y
region_same xs n y l = region_is (slice_set xs n y) n ∙ get_or-set_same xs n y EntityRegion.Uncached l

region_other : (xs : List EntityRegion) (n m : ℕ) (y : EntityRegion) → m ≢ n → region_of (slice_set xs n y) m ≡ region_of xs m
region_other xs n m y d = region_is (slice_set xs n y) m ∙ (get_or-set_other xs n m y EntityRegion.Uncached d ∙ sym (region_is xs m))

pub none_past : (xs : List EntityRegion) (n : ℕ) → length xs ≤ n → region_of xs n ≡ EntityRegion.Uncached
none_past xs n l = ap (λ o. unwrap_or o EntityRegion.Uncached) (slice_get_past xs n l)

-- a region at its place
pub region_at : (xs : List EntityRegion) (n : ℕ) (y : EntityRegion) → n < length xs → y ≡ get_or xs n y → region_of xs n ≡ y
region_at xs n y l v = ap (λ o. unwrap_or o EntityRegion.Uncached) (slice_get-get_or xs n y l ∙ ap Some (sym v))

pub region_put : (xs : List EntityRegion) (i n : ℕ) (y : EntityRegion) → i ≡ n → i < length xs → region_of (slice_set xs i y) n ≡ y
region_put xs i n y e l = subst (λ j. region_of (slice_set xs i y) j ≡ y) e (region_same xs i y l)

pub at_region : (xs : List EntityRegion) (n : ℕ) (y : EntityRegion) → IsAtRegion n xs (slice_set xs n y)
at_region xs n y = record { all = length-set xs n y; others = λ m d. region_other xs n m y (λ e. true≢false (sym (self_by n) ∙ (ap (λ i. n == i) (sym e) ∙ d))) }
