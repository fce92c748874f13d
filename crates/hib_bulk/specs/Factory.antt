-- What a factory with bulk lines keeps: its journal is legal, and its parts, sessions and lines stand for it.
use Rattle.std.specs.Prelude.{List}
use Rattle.hib_journal.specs.Types.{Script}
use Rattle.hib_playing.specs.Playing.{GoesOn}
use Rattle.hib_session.specs.declared.session.Session.{Session}
use Rattle.hib_engines.specs.Origin.{Origin}
use Rattle.hib_bulk.specs.Types.{BulkDef}
use Rattle.hib_bulk.specs.declared.lines.LineProgress.{LineProgress}
use Rattle.hib_bulk.specs.Kept.{Kept, past}
use Rattle.hib_bulk.specs.Standing.{BulkPartsState}
use Rattle.hib_bulk.specs.Run.{IsRun}
use Rattle.hib_bulk.specs.Steps.{AreSessions, AreLines}

pub record FactoryState : Type 0 where
  pub journal : Kept
  pub parts : BulkPartsState
  pub sessions : List Session
  pub progress : List LineProgress

pub record IsStanding (script : Script) (lines : List BulkDef) (from : Origin) (f : FactoryState) : Type 0 where
  pub run : IsRun script lines from (past f.journal) f.parts
  pub sessions : AreSessions script (past f.journal) f.sessions
  pub progress : AreLines script lines (past f.journal) f.progress

-- the journal has gone on, or is still the same
abbrev pub HasGoneOn : FactoryState → FactoryState → Type 0
HasGoneOn old new = GoesOn (past old.journal) (past new.journal)
