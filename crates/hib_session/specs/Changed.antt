-- What contracts see of a transaction's changes.
use Rattle.std.specs.Prelude.{Bool, List}
use Rattle.hib_journal.specs.Types.{Change}

-- the changes in order, and whether there is room for one more
pub record ChangedState : Type 0 where
  pub list : List Change
  pub room : Bool
