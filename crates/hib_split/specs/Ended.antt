-- What is left of a session that is at its end.
use Rattle.std.specs.Prelude.{ℕ}
use Rattle.hib_journal.specs.Sessions.{Journal}

-- its number, and its entries, the newest first
pub record EndedState : Type 0 where
  pub number : ℕ
  pub list : Journal
