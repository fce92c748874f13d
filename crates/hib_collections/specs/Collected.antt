-- The regions of collections, which stand for the entries on them.
use Rattle.std.specs.Prelude.{ℕ, List}
use Rattle.hib_journal.specs.Types.{Script}
use Rattle.hib_engines.specs.declared.region.Region.{Region}
use Rattle.hib_engines.specs.Region.{IsPlaced}
use Rattle.hib_engines.specs.Regions.{region_of}
use Rattle.hib_collections_law.specs.declared.entries.Def.{Def}
use Rattle.hib_collections_law.specs.Types.{Gathered}
use Rattle.hib_collections_law.specs.Gathered.{region_script, regions}

-- each collection has a read-write region by its place
abbrev pub AreCollected : Script → List Def → Gathered → List Region → Type 0
AreCollected script defs g rs = (n : ℕ) → IsPlaced (region_script script defs) n (regions g) (region_of rs n)
