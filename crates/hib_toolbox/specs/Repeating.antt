-- The script whose schedule repeats a journal.
use Rattle.std.specs.Prelude.{◌≡◌, ℕ, Bool, true, false, not, ◌&&◌, ◌||◌, List, [], length, is_some, position, Some, None, Option}
use Rattle.hib_base.specs.Tables.{Tables}
use Rattle.hib_journal.specs.Types.{Script, Entry, Order}
use Rattle.hib_journal.specs.Legal.{IsLegal}
use Rattle.hib_journal.specs.Played.{is_played}
use Rattle.hib_journal.specs.Runs.{IsNumbered, fault_count}
use Rattle.hib_journal.specs.Sessions.{Journal}
use Rattle.hib_order_law.specs.Orders.{IsRun, is_killing, onto, steps_in}
use Rattle.hib_order_schedule.specs.Schedules.{may_be_schedule, runs_of, with_schedule}
use Rattle.hib_print.specs.Printed.{printed}
use Rattle.hib_input.specs.WithJournal.{IsInput, IsBadInput, IsWholeInput}
use Rattle.hib_input.specs.declared.with_journal.WithJournal.{WithJournal}
use Rattle.hib_call.specs.declared.status.Status.{Status}
use Rattle.hib_call.specs.Command.{Command}
use Rattle.hib_call.specs.Limits.{max_journal}
use Rattle.hib_call.specs.Ends.{IsTextTold}
use Rattle.hib_call.specs.Outside.{Shared}
use Rattle.hib_toolbox.specs.declared.ended.Said.{Said}
use Rattle.hib_toolbox.specs.declared.repeat.Repeatable.{Repeatable}
use Rattle.hib_toolbox.specs.declared.repeat.Repeated.{Repeated}
use Rattle.hib_toolbox.specs.Written.{is_script}

-- an entry is no session's own step, and kills none
abbrev pub is_foreign : Entry → Bool
is_foreign e = not (is_some e.session || is_killing e.act)

-- whatever script plays this journal: if it is a whole run of sessions and kills without faults from some rows, then the script plays it, and
-- whatever else the script plays from these rows without faults is it
pub record Repeats (script : Script) (es : List Entry) (by : Script) : Type 0 where
  pub played : (start : Tables) (kills : ℕ) → IsRun script start kills es → is_played by (onto es []) ≡ true
  pub again : (start : Tables) (kills : ℕ) (h : Journal) → IsRun script start kills es → IsLegal by (Some start) h → IsNumbered h →
      fault_count h ≡ 0 → is_played by h ≡ true → h ≡ onto es []

-- whether a script may have orders as its schedule, and its text with them is a script's
abbrev pub may_be_written : Script → List Order → Bool
may_be_written script os = may_be_schedule (length script.sessions) os && is_script (printed (with_schedule script os))

-- whether a schedule repeats a journal, and the script with it
abbrev pub IsRepeated : Script → List Entry → Repeatable → Script → Type 0
IsRepeated script es (Repeatable.Foreign n) by = (position is_foreign es ≡ Some n) × (by ≡ script)
IsRepeated script es Repeatable.Long by =
    (position is_foreign es ≡ None) × (may_be_written script (runs_of (steps_in es)) ≡ false) × (by ≡ script)
IsRepeated script es Repeatable.Whole by =
    (position is_foreign es ≡ None) × (may_be_written script (runs_of (steps_in es)) ≡ true)
    × (by ≡ with_schedule script (runs_of (steps_in es))) × Repeats script es by

-- the script with orders as its schedule, if it may be written with them
abbrev pub IsScheduled : Script → List Order → Repeatable → Script → Type 0
IsScheduled script os (Repeatable.Foreign n) by = ⊥
IsScheduled script os Repeatable.Long by = (may_be_written script os ≡ false) × (by ≡ script)
IsScheduled script os Repeatable.Whole by = (may_be_written script os ≡ true) × (by ≡ with_schedule script os)

-- memory may run out before it is known
abbrev pub StopsRepeating : Shared → Shared → Status → Option Repeated → Type 0
StopsRepeating old new Status.NoMemory None = new ≡ old
StopsRepeating old new _ _ = ⊥

-- nothing is written if no schedule repeats it
abbrev pub repeated_text : Repeatable → Script → List ℕ
repeated_text Repeatable.Whole by = printed by
repeated_text _ by = []

-- and then it is said
abbrev pub said_of : Repeatable → Said
said_of Repeatable.Whole = Said.Nothing
said_of (Repeatable.Foreign n) = Said.Foreign n
said_of Repeatable.Long = Said.Long

abbrev pub IsSaidOfRepeat : Status → Option Repeated → Said → Type 0
IsSaidOfRepeat Status.Done (Some run) said = said ≡ said_of run.repeatable
IsSaidOfRepeat _ _ said = said ≡ Said.Nothing

-- ---- the command
abbrev pub repeating : Command WithJournal Repeated
repeating = record {
  limit = max_journal;
  reads = λ text input. IsInput text input.script input.journal.list;
  refuses = IsBadInput;
  has_form = IsWholeInput;
  leaves = λ input old new run. IsRepeated input.script input.journal.list run.repeatable run.script × (new ≡ old);
  stops = λ input. StopsRepeating;
  tells = λ run answer taken written. IsTextTold answer (repeated_text run.repeatable run.script) taken written;
}
