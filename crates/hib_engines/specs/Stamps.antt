-- The stamps of a script's tables, over a list.
use Rattle.std.specs.Prelude.{◌≡◌, length}
use Rattle.hib_journal.specs.Types.{Script}
use Rattle.hib_journal.specs.Sessions.{Journal}
use Rattle.hib_update_stamps.specs.Stamped.{Stamped}
use Rattle.hib_update_stamps.specs.Standing.{IsStamps}

pub record AreStamps (script : Script) (l : Journal) (x : Stamped) : Type 0 where
  pub stands : IsStamps script.timeout x l
  pub tables : length x ≡ length script.mapping
