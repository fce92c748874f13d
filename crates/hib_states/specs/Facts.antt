-- What is told of a state, one thing at a time.
use Rattle.std.specs.Prelude.{ℕ, Bool, List, Option}
use Rattle.hib_journal.specs.Types.{Key, Row, Change}
use Rattle.hib_journal.specs.Slot.{Slot}
use Rattle.hib_journal.specs.Results.{Result}

pub data Fact : Type 0 where
  -- the committed row of a key
  Committed : Key → Option Row → Fact
  -- what a key has in its region
  Cached : Key → Slot → Fact
  -- the stamp of a table
  Stamped : ℕ → Option ℕ → Fact
  -- the result of a query that is kept
  Kept : ℕ → Option Result → Fact
  -- a session: whether it is open, when its transaction began, and the floor that it was told then
  Session : ℕ → Bool → ℕ → ℕ → Fact
  -- a change that a session has written and not committed yet
  Written : ℕ → Change → Fact
  -- the row that a find would give a session of its own copy of a key
  Copied : ℕ → Key → Option Row → Fact
  -- a session has lost its copies
  Emptied : ℕ → Fact
  -- the sessions that have locked a key and not given the lock back, from the last one on
  Holders : Key → List ℕ → Fact
  -- the claims on the cache don't speak of a key from here on: a lock on it had run out, or it is inserted again after this entry had deleted it
  Unsound : Key → Option ℕ → Fact
  -- nothing is cached, stamped or kept, no session is open, no lock is held, and each key is sound
  Restarted : Fact
  -- why an entry was refused: what the key, the table or the query had, and since which entry
  KeyCause : Key → Slot → Option ℕ → Fact
  TableCause : ℕ → Option ℕ → Option ℕ → Fact
  QueryCause : ℕ → Option ℕ → Fact
