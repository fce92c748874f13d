-- A factory whose sessions are given their statements one by one.
use Rattle.std.specs.Prelude.{◌≡◌, Bool, true, List, ℕ, length}
use Rattle.std.specs.List.{list_all}
use Rattle.hib_base.specs.Scripts.{is_declared}
use Rattle.hib_journal.specs.Types.{Statement, Script}
use Rattle.hib_journal.specs.Kept.{Kept, past}
use Rattle.hib_session.specs.declared.session.Session.{Session}
use Rattle.hib_session.specs.Sessions.{AreSessions}
use Rattle.hib_engines.specs.Engines.{EnginesState}
use Rattle.hib_core.specs.Standing.{Origin}
use Rattle.hib_core.specs.Factory.{IsRun}
use Rattle.hib_listeners.specs.Told.{Told}
use Rattle.hib_live_law.specs.Grown.{HasGrown}
use Rattle.hib_live.specs.Asked.{name_of, with_session, with_statement}

-- as contracts see it: the script of what was asked so far, and what came of it
pub record LiveState : Type 0 where
  pub script : Script
  pub journal : Kept
  pub engines : EnginesState
  pub sessions : List Session

-- it was opened with a script that has grown into what was asked, by statements and sessions alone; its queries read declared tables; the
-- journal is legal for what was asked, and engines and sessions stand for it
pub record IsLive (opened : Script) (from : Origin) (x : LiveState) : Type 0 where
  pub grown : HasGrown opened x.script
  pub rows : x.script.rows ≡ opened.rows
  pub schedule : x.script.schedule ≡ opened.schedule
  pub declared : list_all (λ q. is_declared x.script q) x.script.queries ≡ true
  pub run : IsRun x.script from (past x.journal) x.engines
  pub sessions : AreSessions x.script (past x.journal) x.sessions

-- the same with what its listeners tell, and whether one had no memory for the newest entry
pub record HeardState : Type 0 where
  pub script : Script
  pub journal : Kept
  pub engines : EnginesState
  pub sessions : List Session
  pub told : List Told
  pub deaf : Bool

abbrev pub live_of : HeardState → LiveState
live_of x = record { script = x.script; journal = x.journal; engines = x.engines; sessions = x.sessions }

-- a session has begun behind the others, and nothing else has changed
pub record HasBegun (x y : LiveState) : Type 0 where
  pub script : y.script ≡ with_session x.script (name_of (length x.script.sessions))
  pub journal : y.journal ≡ x.journal
  pub engines : y.engines ≡ x.engines

-- a statement of session n was taken, and nothing else has changed: no step is made yet
pub record HasTaken (n : ℕ) (statement : Statement) (x y : LiveState) : Type 0 where
  pub script : y.script ≡ with_statement x.script n statement
  pub journal : y.journal ≡ x.journal
  pub engines : y.engines ≡ x.engines
  pub sessions : y.sessions ≡ x.sessions
