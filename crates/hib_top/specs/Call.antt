-- What a call of the program promises, whatever its words.
use Rattle.std.specs.Prelude.{◌≡◌, ◌≢◌, ◌↔◌, true, false, [], Some, None, Option, option_map}
use Rattle.hib_call.specs.declared.status.Status.{Status}
use Rattle.hib_call.specs.Called.{IsCalled}
use Rattle.hib_call.specs.Command.{Command}
use Rattle.hib_call.specs.Outside.{Outside}
use Rattle.hib_section_calls.specs.Bulking.{bulking}
use Rattle.hib_section_calls.specs.Collecting.{collecting}
use Rattle.hib_section_calls.specs.Placing.{placing}
use Rattle.hib_top.specs.declared.any_run.AnyRun.{AnyRun}
use Rattle.hib_top.specs.declared.turns.Turns.{Turns}
use Rattle.hib_top.specs.Auditing.{auditing}
use Rattle.hib_top.specs.Making.{making, printing}
use Rattle.hib_top.specs.Running.{running}
use Rattle.hib_top.specs.Words.{telling_of}
use Rattle.hib_words.specs.Commands.{Asked, play, work, make, audit, collect, bulk, nodes}

-- a command was called; what is handed back of its run is this run, if there is one
abbrev pub DoesCall : {I R : Type 0} → Command I R → (R → AnyRun) → Outside → Outside → Status → Option AnyRun → Type 0
DoesCall {I} {R} command kind old new answer handed = (run : Option R) × IsCalled command old new answer run × (handed ≡ option_map kind run)

-- for a command that reads nothing: the source stays as it is, and has nothing that is asked for
abbrev pub unread : Outside → Outside
unread o = record o { left = Some []; read_faults = 0 }

abbrev pub IsUnread : Outside → Outside → Type 0
IsUnread old new = (new.left ≡ old.left) × (new.read_faults ≡ old.read_faults)

-- what is asked for is done by the call of a command
abbrev pub Does : Asked → Outside → Outside → Status → Option AnyRun → Type 0
Does (play s) old new answer handed = DoesCall (running Turns.Scheduled (telling_of s.journal)) AnyRun.Played old new answer handed
Does (work n false s) old new answer handed = DoesCall (running (Turns.OnWorkers n) (telling_of s.journal)) AnyRun.Played old new answer handed
Does (work n true s) old new answer handed = DoesCall (running (Turns.OnParts n) (telling_of s.journal)) AnyRun.Played old new answer handed
Does (make n false) old new answer handed = DoesCall (making n) AnyRun.Played (unread old) (unread new) answer handed × IsUnread old new
Does (make n true) old new answer handed = DoesCall (printing n) AnyRun.Printed (unread old) (unread new) answer handed × IsUnread old new
Does audit old new answer handed = DoesCall auditing AnyRun.Judged old new answer handed
Does collect old new answer handed = DoesCall collecting AnyRun.Collected old new answer handed
Does bulk old new answer handed = DoesCall bulking AnyRun.Bulked old new answer handed
Does nodes old new answer handed = DoesCall placing AnyRun.Noded old new answer handed

-- and if the words have no form, nothing is done
unfoldable pub DoesIf : Option Asked → Outside → Outside → Status → Option AnyRun → Type 0
DoesIf None old new answer handed = (new ≡ old) × (handed ≡ None)
DoesIf (Some asked) old new answer handed = Does asked old new answer handed

pub record Promised (asked : Option Asked) (old new : Outside) (answer : Status) (handed : Option AnyRun) : Type 0 where
  pub does : DoesIf asked old new answer handed
  -- unless memory runs out, words without a form are told from others
  pub usage : answer ≢ Status.NoMemory → ((answer ≡ Status.Usage) ↔ (asked ≡ None))
