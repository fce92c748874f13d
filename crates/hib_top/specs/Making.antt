-- Made scripts: their runs, and their texts. Their input doesn't come from a text.
use Rattle.std.specs.Prelude.{◌≡◌, ℕ, ⊤}
use Rattle.hib_journal.specs.Types.{Script}
use Rattle.hib_make.specs.Made.{made}
use Rattle.hib_print.specs.Printed.{printed}
use Rattle.hib_call.specs.Command.{Command}
use Rattle.hib_call.specs.Ends.{IsTextTold}
use Rattle.hib_top.specs.declared.turns.Turns.{Turns}
use Rattle.hib_top.specs.declared.telling.Telling.{Telling}
use Rattle.hib_top.specs.declared.telling.Played.{Played}
use Rattle.hib_top.specs.Running.{running}

-- the script of a number is made, run by its schedule, and summed up
abbrev pub making : ℕ → Command Script Played
making n = record (running Turns.Scheduled (Telling.Summary n)) {
  limit = 0;
  reads = λ text script. script ≡ made n;
  refuses = λ text refused. ⊥;
  has_form = λ text. ⊤;
}

-- it is written, and nothing is run
abbrev pub printing : ℕ → Command Script Script
printing n = record {
  limit = 0;
  reads = λ text script. script ≡ made n;
  refuses = λ text refused. ⊥;
  has_form = λ text. ⊤;
  leaves = λ script old new run. (run ≡ script) × (new ≡ old);
  stops = λ script old new answer run. ⊥;
  tells = λ run answer taken written. IsTextTold answer (printed run) taken written;
}
