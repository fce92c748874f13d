-- The audit of a journal that comes after its script.
use Rattle.std.specs.Prelude.{◌≡◌, ◌↔◌, ◌⊎◌, ℕ, List, length, Some, None, Option, ◌++◌, codes}
use Rattle.std.specs.Fmt.{decimal}
use Rattle.std.specs.Io.KnownBytes.{Appends}
use Rattle.hib_journal.specs.Kept.{past}
use Rattle.hib_journal.specs.Legal.{IsLegal}
use Rattle.hib_audit.specs.declared.verdict.Audit.{Audit}
use Rattle.hib_audit.specs.Audit.{IsFound, IsLawful}
use Rattle.hib_audit.specs.Breaks.{start_rows}
use Rattle.hib_input.specs.WithJournal.{IsInput, IsBadInput, IsWholeInput}
use Rattle.hib_input.specs.declared.with_journal.WithJournal.{WithJournal}
use Rattle.hib_call.specs.declared.status.Status.{Status}
use Rattle.hib_call.specs.Command.{Command}
use Rattle.hib_call.specs.Limits.{max_journal}
use Rattle.hib_call.specs.Ends.{IsTextTold}
use Rattle.hib_call.specs.Outside.{Shared}
use Rattle.hib_call.specs.StatusLine.{illegal_text}
use Rattle.hib_top.specs.declared.audit.Judged.{Judged}

-- the journal was judged, and nothing was run. What is said of it: that it is legal, and then it is so and obeys the law; or its first
-- bad entry and the point that it breaks
pub record Judges (input : WithJournal) (old new : Shared) (judged : Judged) : Type 0 where
  pub count : judged.count ≡ length input.journal.list
  pub legal : (judged.audit ≡ Audit.Legal) ↔ IsLegal input.script (Some (start_rows input.script)) (past input.journal)
  pub law : IsLawful input.script (start_rows input.script) (past input.journal) judged.audit
  pub found : IsFound input.script (start_rows input.script) (past input.journal) judged.audit
  pub same : new ≡ old

abbrev pub verdict_text : ℕ → Audit → List ℕ
verdict_text n Audit.Legal = codes "legal " ++ decimal n ++ codes "\n"
verdict_text n (Audit.Illegal entry kind) = illegal_text entry kind ++ codes "\n"

abbrev pub status_said : Audit → Status
status_said Audit.Legal = Status.Done
status_said (Audit.Illegal entry kind) = Status.Illegal entry kind

-- the line is written whole also if the status says that the journal isn't legal
abbrev pub IsVerdictTold : Status → List ℕ → Option (List ℕ) → Option (List ℕ) → Type 0
IsVerdictTold (Status.Illegal n k) text old new = Appends old new text
IsVerdictTold answer text old new = IsTextTold answer text old new

pub record Tells (judged : Judged) (answer : Status) (taken written : Option (List ℕ)) : Type 0 where
  -- the status says it too, unless it could not be written
  pub said : (answer ≡ status_said judged.audit) ⊎ ((answer ≡ Status.WriteFault) ⊎ (answer ≡ Status.NoMemory))
  pub text : IsVerdictTold answer (verdict_text judged.count judged.audit) taken written

-- ---- the command
abbrev pub auditing : Command WithJournal Judged
auditing = record {
  limit = max_journal;
  reads = λ text input. IsInput text input.script input.journal.list;
  refuses = IsBadInput;
  has_form = IsWholeInput;
  leaves = Judges;
  -- memory may run out before it is judged
  stops = λ input old new answer judged. (answer ≡ Status.NoMemory) × (judged ≡ None) × (new ≡ old);
  tells = Tells;
}
