-- What holds of the journal of a run with collections.
use Rattle.std.specs.Prelude.{◌≡◌, true, List, Some, Option}
use Rattle.hib_base.specs.Fits.{fits}
use Rattle.hib_base.specs.Tables.{Tables}
use Rattle.hib_journal.specs.Types.{Script}
use Rattle.hib_collections_law.specs.declared.entries.Def.{Def}
use Rattle.hib_collections_law.specs.Types.{Gathered}
use Rattle.hib_collections_law.specs.Gathered.{IsGathered}
use Rattle.hib_collections_law.specs.Law.{Collects}

-- it is legal; and from rows at the start that are told and fit the mapping, the law of collections holds of it
pub record Obeys (script : Script) (defs : List Def) (told : Option Tables) (g : Gathered) : Type 0 where
  pub legal : IsGathered script defs told g
  pub law : (start : Tables) → told ≡ Some start → fits script.mapping start ≡ true → Collects script defs start g
