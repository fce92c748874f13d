-- How a call and its parts may end.
use Rattle.std.specs.Prelude.{◌≡◌, List, ℕ, ⊤, Option}
use Rattle.std.specs.Io.KnownBytes.{Appends}
use Rattle.hib_base.specs.declared.refusals.Refused.{Refused}
use Rattle.hib_script.specs.declared.errors.ScriptError.{ScriptError}
use Rattle.hib_outside.specs.Causes.{Rose}
use Rattle.hib_outside.specs.Fronts.{TakesFront}
use Rattle.hib_call.specs.declared.status.Status.{Status}
use Rattle.hib_call.specs.declared.tasks.Outcome.{Outcome}
use Rattle.hib_call.specs.Command.{Command}
use Rattle.hib_call.specs.Outside.{Shared}

-- want of memory says nothing of a text
abbrev pub IsWhere : (Refused → Type 0) → ScriptError → Type 0
IsWhere refuses ScriptError.NoMemory = ⊤
IsWhere refuses (ScriptError.Refused r) = refuses r

-- a run may end a call so, with nothing told
abbrev pub IsEarly : Status → Type 0
IsEarly (Status.Torn torn) = ⊤
IsEarly Status.NoMemory = ⊤
IsEarly Status.StoreFault = ⊤
IsEarly _ = ⊥

-- a call may end so after a run to its end
abbrev pub IsAfterRun : Status → Type 0
IsAfterRun Status.Done = ⊤
IsAfterRun (Status.Illegal n k) = ⊤
IsAfterRun Status.WriteFault = ⊤
IsAfterRun Status.NoMemory = ⊤
IsAfterRun _ = ⊥

-- what a run came to
abbrev pub Comes : {I R : Type 0} → Command I R → I → Shared → Shared → Outcome R → Type 0
Comes c input old new (Outcome.Over run) = c.leaves input old new run
Comes c input old new (Outcome.Stopped status run) = c.stops input old new status run × IsEarly status × (status ≡ Status.StoreFault → Rose old.faults new.faults)

-- a text was told: it was written whole at Done, and a front of it if the sink failed or memory ran out. It ends in no other way
abbrev pub IsTextTold : Status → List ℕ → Option (List ℕ) → Option (List ℕ) → Type 0
IsTextTold Status.Done text old new = Appends old new text
IsTextTold Status.WriteFault text old new = TakesFront old new text
IsTextTold Status.NoMemory text old new = TakesFront old new text
IsTextTold _ text old new = ⊥
