-- The sessions and the lines of a run, each as far as its own entries, and a step of one of them.
use Rattle.std.specs.Prelude.{◌≡◌, ◌≢◌, ℕ, ◌+◌, ◌==◌, true, false, List, ◌∷◌, length, slice_get, Some, None, Result, Ok}
use Rattle.std.specs.declared.alloc.AllocError.{AllocError}
use Rattle.hib_journal.specs.Types.{Script}
use Rattle.hib_journal.specs.Sessions.{own}
use Rattle.hib_session.specs.declared.session.Session.{Session}
use Rattle.hib_session.specs.Session.{Follows, number_of}
use Rattle.hib_bulk.specs.Types.{BulkDef, BulkEntry}
use Rattle.hib_bulk.specs.declared.lines.LineProgress.{LineProgress}
use Rattle.hib_bulk_law.specs.Plain.{Bulked, plain}
use Rattle.hib_bulk_law.specs.Acts.{next}
use Rattle.hib_outside.specs.Causes.{Rose}
use Rattle.hib_engines.specs.Origin.{Origin}
use Rattle.hib_engines.specs.declared.stepped.Stepped.{Stepped}
use Rattle.hib_bulk.specs.Changed.{is_fault}
use Rattle.hib_bulk.specs.Standing.{BulkPartsState, IsStill}
use Rattle.hib_bulk.specs.Run.{IsRun, IsLine}

pub record AreSessions (script : Script) (h : Bulked) (xs : List Session) : Type 0 where
  pub all : length xs ≡ length script.sessions
  pub numbers : (s : ℕ) (y : Session) → slice_get xs s ≡ Some y → number_of y ≡ s
  pub follow : (s : ℕ) (y : Session) → slice_get xs s ≡ Some y → Follows script y (own s (plain h))

-- the lines are numbered after the sessions
pub record AreLines (script : Script) (lines : List BulkDef) (h : Bulked) (ps : List LineProgress) : Type 0 where
  pub all : length ps ≡ length lines
  pub stand : (i : ℕ) (d : BulkDef) (p : LineProgress) → slice_get lines i ≡ Some d → slice_get ps i ≡ Some p → IsLine script h (length script.sessions + i) d p.steps p.failed

-- the act that was due in s was answered, and its entry added
pub record Adds (script : Script) (lines : List BulkDef) (s : ℕ) (h new : Bulked) : Type 0 where
  pub entry : BulkEntry
  pub by : entry.session ≡ s
  pub grown : new ≡ entry ∷ h
  pub due : next script lines h s ≡ Some entry.act
  pub others : (n : ℕ) → (s == n) ≡ false → own n (plain new) ≡ own n (plain h)

-- a step of s was tried, which answered so: either the act that was due was answered and its entry added, or nothing has changed but the
-- keeper's counts
pub record HasTurned (script : Script) (lines : List BulkDef) (from : Origin) (s : ℕ) (r : Result Stepped AllocError) (h new : Bulked) (x w : BulkPartsState) : Type 0 where
  pub run : IsRun script lines from new w
  pub did : r ≡ Ok Stepped.Did → Adds script lines s h new
  pub done : r ≡ Ok Stepped.Done → next script lines new s ≡ None
  pub same : r ≢ Ok Stepped.Did → new ≡ h
  pub still : r ≢ Ok Stepped.Did → IsStill x w
  pub fault : (e : BulkEntry) → new ≡ e ∷ h → is_fault e.reply ≡ true → Rose x.store.faults w.store.faults

-- a line that has done nothing
abbrev pub fresh : BulkDef → LineProgress
fresh d = record { steps = 0; failed = false }
