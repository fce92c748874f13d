-- The law: all that is claimed of a legal journal over told rows.
use Rattle.std.specs.Prelude.{◌≡◌, ℕ, Some, None, Option}
use Rattle.hib_journal.specs.Types.{Key, Strategy, Script}
use Rattle.hib_base.specs.Tables.{Tables}
use Rattle.hib_journal.specs.Sessions.{Journal, own}
use Rattle.hib_journal.specs.Plan.{InOrder}
use Rattle.hib_journal.specs.Next.{strategy, plan_of}
use Rattle.hib_law.specs.Prefixes.{AtEachPrefix, AtEachEntry}
use Rattle.hib_law.specs.Rows.{IsKeyCoherent, IsFindAnswered}
use Rattle.hib_law.specs.Items.{IsItemOld, IsItemGiven}
use Rattle.hib_law.specs.Hits.{AreHitsTrue}
use Rattle.hib_law.specs.Misses.{HasCause}
use Rattle.hib_law.specs.Locks.{AreLocksKept}
use Rattle.hib_law.specs.Seen.{AreSeenSafe, AreFloorsLow}
use Rattle.hib_law.specs.Lone.{IsLockLone}
use Rattle.hib_law.specs.Writers.{AreWritersHolders}
use Rattle.hib_law.specs.Standing.{AreStampsLate, AreResultsTrue}

pub record Coheres (script : Script) (start : Tables) (h : Journal) : Type 0 where
  -- a sound read-write key: its item is the committed row, and so is a hit of it
  pub rows : (k : Key) → strategy script k.entity ≡ Strategy.ReadWrite → IsKeyCoherent script start k h
  -- finds of any key answer what the session has written or holds, else what is or was committed
  pub finds : AtEachEntry (IsFindAnswered start) h
  -- a list from the cache is what the query gave at a moment since which only unstamped commits have touched its tables
  pub hits : AreHitsTrue script start h
  -- each refusal has its cause
  pub misses : AtEachEntry (HasCause script) h
  -- each item was committed since the restart, and one of a read-only region was given to its key
  pub items : (k : Key) → AtEachPrefix (IsItemOld script start k) h
  pub given : (k : Key) → strategy script k.entity ≡ Strategy.ReadOnly → AtEachPrefix (IsItemGiven start k) h
  -- the lock of a sound read-write key is held by those who took it, and is given back
  pub locks : (k : Key) → strategy script k.entity ≡ Strategy.ReadWrite → AreLocksKept script k h
  -- an open session that has written a change of a row holds the lock of its key until it gives it back
  pub writers : (k : Key) → strategy script k.entity ≡ Strategy.ReadWrite → AtEachPrefix (AreWritersHolders k) h
  -- a lock that isn't shared has one holder at most, and nobody else has changed the row since it was placed
  pub lone : (k : Key) → strategy script k.entity ≡ Strategy.ReadWrite → AtEachPrefix (IsLockLone script start k) h
  -- the stamp of a table is at least the tick of each entry since the restart that stamped it
  pub stamps : AtEachPrefix (AreStampsLate script) h
  -- a result that is kept is what its query gave over the rows that were committed at its List, later than the result's time
  pub results : AtEachPrefix (AreResultsTrue script start) h
  -- what an open session has seen of a sound read-write key is committed still, or a put of it will be refused
  pub safe : (k : Key) → strategy script k.entity ≡ Strategy.ReadWrite → AtEachPrefix (AreSeenSafe script start k) h
  -- the floor of an open session is no later than the time of any open session
  pub floors : AtEachPrefix AreFloorsLow h
  -- each session's entries are the acts of its plan, each once and in order
  pub steps : (s : ℕ) → InOrder (plan_of script s) (own s h)

-- what is claimed whether the rows at the start are told or not: without them, the order of the acts alone
abbrev pub Obeys : Script → Option Tables → Journal → Type 0
Obeys script (Some start) h = Coheres script start h
Obeys script None h = (s : ℕ) → InOrder (plan_of script s) (own s h)
