-- Where the counts of an entity stand.
use Rattle.std.specs.Prelude.{◌≡◌, ◌↔◌, ℕ, List, map, slice_get, Some, None, Option}
use Rattle.hib_journal.specs.Types.{Key}
use Rattle.hib_listeners.specs.declared.counts.RegionCounts.{RegionCounts}

abbrev pub entities : List RegionCounts → List ℕ
entities places = map (λ c. c.entity) places

-- place k of a list of entities has entity n exactly if the index of n is k
abbrev pub IsIndex : List (Option ℕ) → List ℕ → Type 0
IsIndex index entities = (n k : ℕ) → (slice_get index n ≡ Some (Some k)) ↔ (slice_get entities k ≡ Some n)

abbrev pub or_none : Option (Option ℕ) → Option ℕ
or_none None = None
or_none (Some o) = o

-- the place of a key's entity
abbrev pub place_in : List (Option ℕ) → Option Key → Option ℕ
place_in index None = None
place_in index (Some k) = or_none (slice_get index k.entity)
