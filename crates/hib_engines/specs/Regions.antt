-- The regions of a script's entities, one for each.
use Rattle.std.specs.Prelude.{◌≡◌, ℕ, ◌==◌, false, List, length, slice_get, unwrap_or}
use Rattle.hib_engines.specs.declared.region.Region.{Region}
use Rattle.hib_engines.specs.Region.{emptied}

-- the region of an entity; none is uncached
abbrev pub region_of : List Region → ℕ → Region
region_of xs n = unwrap_or (slice_get xs n) Region.Uncached

-- no region but that of entity n has changed
pub record IsAtRegion (n : ℕ) (xs ys : List Region) : Type 0 where
  pub all : length ys ≡ length xs
  pub others : (m : ℕ) → (n == m) ≡ false → region_of ys m ≡ region_of xs m

-- each region is emptied
pub record AreEmptied (xs ys : List Region) : Type 0 where
  pub all : length ys ≡ length xs
  pub each : (n : ℕ) → region_of ys n ≡ emptied (region_of xs n)
