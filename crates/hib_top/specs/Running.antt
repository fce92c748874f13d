-- The run of a script.
use Rattle.std.specs.Prelude.{◌≡◌, ◌⊎◌, reverse, ◌≤◌, ℕ, Bool, true, false, List, length, slice_get, IfSome, Some, None, Option, Ok, Err, ◌++◌, codes}
use Rattle.std.specs.Fmt.{decimal}
use Rattle.std.specs.List.{list_all}
use Rattle.hib_base.specs.Scripts.{is_declared}
use Rattle.hib_base.specs.Tables.{Tables}
use Rattle.hib_journal.specs.Types.{Script, SessionDef, Entry}
use Rattle.hib_journal.specs.Kept.{past}
use Rattle.hib_journal.specs.Sessions.{Journal}
use Rattle.hib_journal.specs.Played.{has_next, is_played}
use Rattle.hib_journal.specs.Legal.{IsLegal}
use Rattle.hib_journal.specs.Runs.{IsNumbered, told_committed, name_identifiers, fault_count, ask_count}
use Rattle.hib_law.specs.Law.{Obeys}
use Rattle.hib_split_law.specs.Merged.{AreDue}
use Rattle.hib_joined.specs.Joined.{AreApart}
use Rattle.hib_joined.specs.Run.{AreInOrder, HaveParted}
use Rattle.hib_core.specs.Bound.{max_entries, outside_count}
use Rattle.hib_core.specs.Standing.{RoseBy, RoseWithin, told_start}
use Rattle.hib_report.specs.Report.{report, summary}
use Rattle.hib_json_lines.specs.Line.{json_lines}
use Rattle.hib_formed.specs.Fitting.{AreFit}
use Rattle.hib_journal_json.specs.Entries.{AreEntries}
use Rattle.hib_script.specs.Outline.{Outline, outline_of}
use Rattle.hib_script.specs.Script.{script_of}
use Rattle.hib_call.specs.declared.status.Status.{Status}
use Rattle.hib_call.specs.Command.{Command}
use Rattle.hib_call.specs.Limits.{max_script}
use Rattle.hib_call.specs.Ends.{IsTextTold}
use Rattle.hib_call.specs.Outside.{Shared}
use Rattle.hib_call.specs.Runs.{AreHandedBack, IsUnrun, most_asked}
use Rattle.hib_top.specs.declared.turns.Turns.{Turns}
use Rattle.hib_top.specs.declared.telling.Telling.{Telling}
use Rattle.hib_top.specs.declared.telling.Played.{Played}

-- by its schedule: the entries are those of its orders, one after the other, and then of the rest of each session. On workers
-- they are steps of sessions alone: no kill, no eviction and no restart. Over parts one worker makes those of one session after the
-- other, in order of number
abbrev pub IsOrdered : Turns → Script → Journal → Type 0
IsOrdered Turns.Scheduled script h = is_played script h ≡ true
IsOrdered (Turns.OnParts n) script h = (outside_count h ≡ 0) × (n ≡ 1 → AreInOrder h)
IsOrdered _ script h = outside_count h ≡ 0

-- the k-th entry has tick k; over parts under locks of their own each has the tick that is due, by the last ones of its part and of
-- its session, which on one worker is k as well
abbrev pub AreTicked : Turns → Journal → Type 0
AreTicked (Turns.OnParts n) h = AreDue h × (n ≡ 1 → IsNumbered h)
AreTicked _ h = IsNumbered h

-- each session is at its end, if it has no next act, or was killed
pub record IsFinished (turns : Turns) (script : Script) (h : Journal) : Type 0 where
  pub ended : (s : ℕ) (d : SessionDef) → slice_get script.sessions s ≡ Some d → has_next script h s ≡ false
  pub ordered : IsOrdered turns script h

-- the journal is legal for the script from the rows at the start, with its ticks in turn, and so obeys the law; the keeper has
-- the rows that its commits gave
pub record IsPlayed (turns : Turns) (script : Script) (start rows : Option Tables) (h : Journal) : Type 0 where
  pub legal : IsLegal script start h
  pub law : Obeys script start h
  -- and each query reads declared tables alone, so that each list from the cache is what its query gave
  pub declared : list_all (λ q. is_declared script q) script.queries ≡ true
  pub ticked : AreTicked turns h
  -- it is short
  pub few : length h ≤ max_entries
  -- what was evicted from outside has an identifier
  pub named : name_identifiers h ≡ true
  -- if the rows at the start fit the mapping, each entry is well formed
  pub formed : IfSome start (λ told. AreFit script told → AreEntries script (reverse h))
  pub committed : rows ≡ told_committed start h

-- a run: what the keeper and the listeners tell after it is what its journal says. It begins with the rows that the keeper kept,
-- with the script's rows; short says whether memory ran out
pub record IsRun (turns : Turns) (short : Bool) (script : Script) (old new : Shared) (run : Played) : Type 0 where
  pub of : run.script ≡ script
  pub played : IsPlayed turns script (told_start script old.tables) new.tables (past run.journal)
  pub faults : RoseBy old.faults (fault_count (past run.journal)) new.faults
  pub asked : RoseWithin old.asked (most_asked short (ask_count (past run.journal))) new.asked
  pub listeners : AreHandedBack short run.journal.list old.told new.told

-- a run didn't come to its end: memory ran out, on the way or before the first step, or the keeper didn't take the script's rows. Over
-- parts no journal is there then, and nothing is said of the rows; with two workers or more they may be torn. Then two entities differ, and
-- nothing more is said; or two entries or ticks, and they are where lists of the parts and of the sessions part first
abbrev pub Stops : Turns → Script → Shared → Shared → Status → Option Played → Type 0
Stops (Turns.OnParts n) script old new (Status.Torn torn) None =
    (2 ≤ n) × AreApart torn × HaveParted script (told_start script old.tables) torn × RoseBy old.faults 0 new.faults
Stops (Turns.OnParts n) script old new Status.NoMemory None = RoseBy old.faults 0 new.faults
Stops turns script old new Status.NoMemory (Some run) = IsRun turns true script old new run
Stops turns script old new Status.NoMemory None = IsUnrun old new
Stops turns script old new Status.StoreFault None = IsUnrun old new
Stops turns script old new _ _ = ⊥

-- what is written of a run: its report; its journal as JSON lines; or the number that its script was made from and the summary
abbrev pub told_by : Telling → Script → List Entry → List ℕ
told_by Telling.Report script es = report script es
told_by Telling.JsonLines script es = json_lines script es
told_by (Telling.Summary n) script es = codes "seed " ++ decimal n ++ codes "\n" ++ summary script es

pub record Tells (telling : Telling) (run : Played) (answer : Status) (taken written : Option (List ℕ)) : Type 0 where
  pub report : IsTextTold answer (told_by telling run.script run.journal.list) taken written
  -- JSON lines that are written, whole or in part, are of well-formed entries: then they are read back as these entries
  pub tellable : telling ≡ Telling.JsonLines → AreEntries run.script run.journal.list ⊎ ((answer ≡ Status.NoMemory) × (written ≡ taken))

-- ---- the command
abbrev pub running : Turns → Telling → Command Script Played
running turns telling = record {
  limit = max_script;
  reads = λ text script. script_of text ≡ Ok (outline_of script);
  refuses = λ text refused. script_of text ≡ Err refused;
  has_form = λ text. (said : Outline) × (script_of text ≡ Ok said);
  leaves = λ script old new run. IsRun turns false script old new run × IsFinished turns script (past run.journal);
  stops = Stops turns;
  tells = Tells telling;
}
