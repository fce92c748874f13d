-- A journal as data: as flat objects or columns, and as a trace.
use Rattle.std.specs.Prelude.{ℕ, Bool, true, false, List}
use Rattle.hib_flat.specs.Lines.{flat, flat_csv}
use Rattle.hib_input.specs.declared.with_journal.WithJournal.{WithJournal}
use Rattle.hib_call.specs.Command.{Command}
use Rattle.hib_call.specs.Ends.{IsTextTold}
use Rattle.hib_toolbox.specs.Reporting.{reporting}

abbrev pub flat_text : Bool → WithJournal → List ℕ
flat_text true run = flat_csv run.script run.journal.list
flat_text false run = flat run.script run.journal.list

-- the journal as columns, or as flat objects
abbrev pub flattening : Bool → Command WithJournal WithJournal
flattening csv = record reporting {
  tells = λ run answer taken written. IsTextTold answer (flat_text csv run) taken written;
}

-- a trace of the journal; that what is written is the journal's isn't promised
abbrev pub tracing : Command WithJournal WithJournal
tracing = record reporting {
  tells = λ run answer taken written. (text : List ℕ) × IsTextTold answer text taken written;
}
