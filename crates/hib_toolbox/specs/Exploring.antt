-- The orders of a script's sessions, tried and told.
use Rattle.std.specs.Prelude.{◌≡◌, ◌⊎◌, ◌≤◌, ◌^◌, ◌-◌, ◌&&◌, ◌||◌, ◌==◌, ℕ, Bool, true, false, if◌then◌else◌, List, [], is_some, IfSome, Some, None, Option, Ok, Err}
use Rattle.hib_journal.specs.Types.{Key, Strategy, Script, Entry}
use Rattle.hib_journal.specs.Next.{strategy}
use Rattle.hib_journal.specs.Played.{is_played}
use Rattle.hib_journal.specs.Legal.{IsLegal}
use Rattle.hib_journal.specs.Runs.{IsNumbered, fault_count}
use Rattle.hib_journal.specs.Sessions.{Journal}
use Rattle.hib_law.specs.Rows.{IsKeyCoherent}
use Rattle.hib_order_law.specs.Orders.{IsRun, IsWithin, onto, steps_in}
use Rattle.hib_order_law.specs.declared.verdicts.Verdicts.{Verdicts}
use Rattle.hib_order_schedule.specs.Schedules.{shown, with_schedule}
use Rattle.hib_order_stage.specs.Staged.{ended_in, judged_from_start, rows_at_start}
use Rattle.hib_order_text.specs.Texts.{found_of, text}
use Rattle.hib_order_text.specs.declared.findings.Finding.{Finding}
use Rattle.hib_order_tries.specs.Found.{IsTold}
use Rattle.hib_order_tries.specs.declared.found.Findings.{Findings}
use Rattle.hib_order_tries.specs.declared.found.First.{First}
use Rattle.hib_print.specs.Printed.{printed}
use Rattle.hib_script.specs.Outline.{Outline, outline_of}
use Rattle.hib_script.specs.Script.{script_of}
use Rattle.hib_call.specs.declared.status.Status.{Status}
use Rattle.hib_call.specs.Command.{Command}
use Rattle.hib_call.specs.Limits.{max_script}
use Rattle.hib_call.specs.Ends.{IsTextTold}
use Rattle.hib_call.specs.Outside.{Shared}
use Rattle.hib_toolbox.specs.declared.ended.Said.{Said}
use Rattle.hib_toolbox.specs.declared.orders.Explored.{Explored}
use Rattle.hib_toolbox.specs.declared.show.Shown.{Shown}
use Rattle.hib_toolbox.specs.Written.{is_script}

-- the finding of a number, 1 to 5
abbrev pub finding_numbered : ℕ → Finding
finding_numbered n =
    if n == 1 then Finding.StaleHit else (if n == 2 then Finding.OldList else (if n == 3 then Finding.LostUpdate else (if n == 4 then Finding.UnsoundKey else Finding.RefusedCommit)))

-- the most orders that are tried
abbrev pub limit_of : Option ℕ → ℕ
limit_of None = 2 ^ 64 - 1
limit_of (Some n) = n

-- whether a finding is one that is judged so
abbrev pub has_of : Verdicts → Finding → Bool
has_of v Finding.StaleHit = v.stale_hit
has_of v Finding.OldList = v.old_list
has_of v Finding.LostUpdate = v.lost_update
has_of v Finding.UnsoundKey = v.unsound_key
has_of v Finding.RefusedCommit = v.refused_commit

abbrev pub has_in : Script → Finding → List Entry → Bool
has_in script finding es = has_of (judged_from_start script es) finding

-- an order that is told to have something is that of a run that has it. The script with the schedule that is told plays this run; and
-- whatever that script plays over these rows without faults is this run
pub record IsShown (script : Script) (kills : ℕ) (finding : Finding) (f : First) : Type 0 where
  pub es : List Entry
  pub run : IsRun script (rows_at_start script) kills es
  pub order : f.order.items ≡ steps_in es
  pub has : has_in script finding es ≡ true
  pub played : is_played (with_schedule script (shown f.order.items)) (onto es []) ≡ true
  pub again : (h : Journal) → IsLegal (with_schedule script (shown f.order.items)) (Some (rows_at_start script)) h → IsNumbered h →
      fault_count h ≡ 0 → is_played (with_schedule script (shown f.order.items)) h ≡ true → h ≡ onto es []

-- the orders of a script with so many switches and kills at most were tried, or so many of them
pub record Explores (switches kills : ℕ) (at_most : Option ℕ) (script : Script) (run : Explored) : Type 0 where
  pub of : run.script ≡ script
  -- each once; what is counted of them is what they come to; and they are all of them, or all with fewer switches than it says and none with
  -- more
  pub told : IsTold script (rows_at_start script) (judged_from_start script) (ended_in script) kills switches run.told.whole run.told.level run.told.findings
  -- it stops at the bound alone
  pub few : run.told.findings.tried ≤ limit_of at_most
  pub whole : (run.told.whole ≡ true) ⊎ (run.told.findings.tried ≡ limit_of at_most)
  -- if all were tried and something is told of none, then no run of the sessions, without faults and with so few switches and kills, has it,
  -- whoever made it
  pub none : (finding : Finding) → run.told.whole ≡ true → (found_of run.told.findings finding).first ≡ None →
      (es : List Entry) → IsWithin script (rows_at_start script) kills switches es → has_in script finding es ≡ false
  pub first : (finding : Finding) → IfSome (found_of run.told.findings finding).first (IsShown script kills finding)
  -- in no run is a hit of a sound key of a read-write entity another row than the committed one
  pub never : (es : List Entry) → IsRun script (rows_at_start script) kills es → (k : Key) → strategy script k.entity ≡ Strategy.ReadWrite →
      IsKeyCoherent script (rows_at_start script) k (onto es [])

-- memory may run out before all were tried
abbrev pub Stops : {R : Type 0} → Shared → Shared → Status → Option R → Type 0
Stops old new Status.NoMemory None = new ≡ old
Stops old new _ _ = ⊥

abbrev pub is_there : Findings → Finding → Bool
is_there f finding = is_some (found_of f finding).first

-- an order ends badly
abbrev pub is_any : Findings → Bool
is_any f = is_there f Finding.StaleHit || is_there f Finding.OldList || is_there f Finding.LostUpdate
    || is_there f Finding.UnsoundKey || is_there f Finding.RefusedCommit

-- it is said if all was done
abbrev pub IsSaid : Status → Option Explored → Said → Type 0
IsSaid Status.Done (Some run) said = said ≡ (if is_any run.told.findings then Said.Found else Said.Nothing)
IsSaid _ _ said = said ≡ Said.Nothing

-- ---- the command
abbrev pub exploring : ℕ → ℕ → Option ℕ → Command Script Explored
exploring switches kills at_most = record {
  limit = max_script;
  reads = λ text script. script_of text ≡ Ok (outline_of script);
  refuses = λ text refused. script_of text ≡ Err refused;
  has_form = λ text. (said : Outline) × (script_of text ≡ Ok said);
  leaves = λ script old new run. Explores switches kills at_most script run × (new ≡ old);
  stops = λ script. Stops;
  tells = λ run answer taken written. IsTextTold answer (text run.script kills switches run.told) taken written;
}

-- ---- one finding shown

-- the script with the schedule of an order that has it, if one was found
abbrev pub script_shown : Script → Option First → Script
script_shown script None = script
script_shown script (Some f) = with_schedule script (shown f.order.items)

-- the orders were tried, and it is known whether the text of the script with that schedule is a script's
pub record Shows (switches kills : ℕ) (at_most : Option ℕ) (finding : Finding) (script : Script) (run : Shown) : Type 0 where
  pub explored : Explores switches kills at_most script (record { script = script; told = run.told })
  pub shown : run.script ≡ script_shown script (found_of run.told.findings finding).first
  pub readable : run.readable ≡ is_script (printed run.script)

-- nothing is written if it wasn't found, or if what would be written isn't a script's text
abbrev pub shown_text : Finding → Shown → List ℕ
shown_text finding run = if is_there run.told.findings finding && run.readable then printed run.script else []

-- and then it is said
abbrev pub said_of_shown : Finding → Shown → Said
said_of_shown finding run =
    if is_there run.told.findings finding then (if run.readable then Said.Nothing else Said.Long) else Said.Missing

abbrev pub IsSaidOf : Finding → Status → Option Shown → Said → Type 0
IsSaidOf finding Status.Done (Some run) said = said ≡ said_of_shown finding run
IsSaidOf finding _ _ said = said ≡ Said.Nothing

abbrev pub showing : ℕ → ℕ → Option ℕ → Finding → Command Script Shown
showing switches kills at_most finding = record {
  limit = max_script;
  reads = λ text script. script_of text ≡ Ok (outline_of script);
  refuses = λ text refused. script_of text ≡ Err refused;
  has_form = λ text. (said : Outline) × (script_of text ≡ Ok said);
  leaves = λ script old new run. Shows switches kills at_most finding script run × (new ≡ old);
  stops = λ script. Stops;
  tells = λ run answer taken written. IsTextTold answer (shown_text finding run) taken written;
}
