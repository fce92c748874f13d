-- The line that says how a call ended.
use Rattle.std.specs.Prelude.{ℕ, List, ◌++◌, codes}
use Rattle.std.specs.Fmt.{decimal}
use Rattle.hib_base.specs.Kinds.{kind_word}
use Rattle.hib_base.specs.declared.refusals.Refused.{Refused}
use Rattle.hib_audit.specs.declared.points.AuditKind.{AuditKind}
use Rattle.hib_call.specs.declared.status.Status.{Status}

abbrev pub refused_text : Refused → List ℕ
refused_text r = codes "line " ++ decimal r.line ++ codes ": " ++ kind_word r.kind

-- a point by its word
abbrev pub kind_text : AuditKind → List ℕ
kind_text AuditKind.Tick = codes "tick"
kind_text AuditKind.Session = codes "session"
kind_text AuditKind.Part = codes "part"
kind_text AuditKind.Act = codes "act"
kind_text AuditKind.Reply = codes "reply"

abbrev pub illegal_text : ℕ → AuditKind → List ℕ
illegal_text n k = codes "illegal " ++ decimal n ++ codes " " ++ kind_text k

abbrev pub answer_text : Status → List ℕ
answer_text Status.Done = codes "done"
answer_text (Status.Illegal n k) = illegal_text n k
answer_text Status.Usage = codes "usage"
answer_text (Status.Refused r) = refused_text r
answer_text Status.ReadFault = codes "read fault"
answer_text Status.WriteFault = codes "write fault"
answer_text Status.TooLong = codes "too long"
answer_text (Status.Torn torn) = codes "torn"
answer_text Status.NoMemory = codes "no memory"
answer_text Status.StoreFault = codes "store fault"

abbrev pub status_text : Status → List ℕ
status_text s = codes "hib: " ++ answer_text s ++ codes "\n"
