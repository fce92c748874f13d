-- The entry to which a part of a state goes back: the newest one since the restart that passes a test.
use Rattle.std.specs.Prelude.{ℕ, ◌+◌, Bool, if◌then◌else◌, List, [], ◌∷◌, length, Some, None, Option, is_some}
use Rattle.hib_journal.specs.Types.{Key, Act, Entry}
use Rattle.hib_journal.specs.Sessions.{Journal, is_restart}
use Rattle.hib_journal.specs.Slot.{touch}
use Rattle.hib_journal.specs.Stamps.{names}
use Rattle.hib_journal.specs.Sound.{keeps_by}

-- its number in the journal, from 1, if there is one
abbrev pub newest : (Entry → Bool) → Journal → Option ℕ
newest p [] = None
newest p (e ∷ h) = if is_restart e.act then None else if p e then Some (length h + 1) else newest p h

-- the tables that an act stamps
abbrev pub tables_in : Act → List ℕ
tables_in (Act.Pre ts) = ts
tables_in (Act.Stamp ts) = ts
tables_in _ = []

-- the entry that touched a key last
abbrev pub last_touch : Key → Journal → Option ℕ
last_touch k h = newest (λ e. is_some (touch k e)) h

-- the entry that stamped a table last
abbrev pub last_stamp : ℕ → Journal → Option ℕ
last_stamp t h = newest (λ e. names t (tables_in e.act)) h

-- the entry that kept a result of a query last
abbrev pub last_keep : ℕ → Journal → Option ℕ
last_keep q h = newest (λ e. keeps_by q e.act) h
