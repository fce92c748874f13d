-- The report of a journal that comes after its script.
use Rattle.std.specs.Prelude.{◌≡◌}
use Rattle.hib_input.specs.WithJournal.{IsInput, IsBadInput, IsWholeInput}
use Rattle.hib_input.specs.declared.with_journal.WithJournal.{WithJournal}
use Rattle.hib_report.specs.Report.{report}
use Rattle.hib_call.specs.Command.{Command}
use Rattle.hib_call.specs.Limits.{max_journal}
use Rattle.hib_call.specs.Ends.{IsTextTold}

-- ---- the command
abbrev pub reporting : Command WithJournal WithJournal
reporting = record {
  limit = max_journal;
  reads = λ text input. IsInput text input.script input.journal.list;
  refuses = IsBadInput;
  has_form = IsWholeInput;
  leaves = λ input old new run. (run ≡ input) × (new ≡ old);
  stops = λ input old new answer run. ⊥;
  tells = λ run answer taken written. IsTextTold answer (report run.script run.journal.list) taken written;
}
