-- Stamps that stand for a journal: each table has the stamp that the journal tells.
use Rattle.std.specs.Prelude.{◌≡◌, ℕ, ◌+◌, ◌<◌, length, slice_get, Some}
use Rattle.hib_journal.specs.Types.{Act}
use Rattle.hib_journal.specs.Sessions.{Journal}
use Rattle.hib_journal.specs.Stamps.{stamp}
use Rattle.hib_update_stamps.specs.Stamped.{Stamped, unstamped, stamped}

pub record IsStamps (timeout : ℕ) (stamps : Stamped) (h : Journal) : Type 0 where
  pub each : (t : ℕ) → t < length stamps → slice_get stamps t ≡ Some (stamp timeout t h)

-- what an act at this tick leaves
abbrev pub stamps_after : ℕ → ℕ → Act → Stamped → Stamped
stamps_after timeout now (Act.Pre ts) s = stamped ts (now + timeout) s
stamps_after timeout now (Act.Stamp ts) s = stamped ts now s
stamps_after timeout now Act.Restart s = unstamped (length s)
stamps_after timeout now _ s = s
