-- The rows that a keeper has of a script's entities.
use Rattle.std.specs.Prelude.{◌≡◌, length, IfSome, Option, None, Ok, Err}
use Rattle.std.specs.List.{range_with_len}
use Rattle.hib_journal.specs.Types.{Script}
use Rattle.hib_outside.specs.Keeps.{rows_of}
use Rattle.hib_print.specs.Printed.{printed_rows}
use Rattle.hib_script.specs.Outline.{Outline, outline_of}
use Rattle.hib_script.specs.Script.{script_of}
use Rattle.hib_call.specs.declared.status.Status.{Status}
use Rattle.hib_call.specs.Command.{Command}
use Rattle.hib_call.specs.Limits.{max_script}
use Rattle.hib_call.specs.Ends.{IsTextTold}
use Rattle.hib_call.specs.Outside.{Shared}

-- the keeper was asked, and its rows are as before
pub record IsKept (old new : Shared) : Type 0 where
  pub tables : new.tables ≡ old.tables
  pub told : new.told ≡ old.told

-- the script with all rows that the keeper has of its entities, in the place of its own
pub record IsListed (script : Script) (old new : Shared) (run : Script) : Type 0 where
  pub kept : IsKept old new
  pub rows : IfSome old.tables (λ m. run.rows ≡ rows_of (range_with_len 0 (length script.mapping)) m)
  pub rest : run ≡ record script { rows = run.rows }

-- memory may run out, or the keeper fail
abbrev pub StopsListing : Shared → Shared → Status → Option Script → Type 0
StopsListing old new Status.NoMemory None = IsKept old new
StopsListing old new Status.StoreFault None = IsKept old new
StopsListing old new _ _ = ⊥

-- ---- the command
abbrev pub listing : Command Script Script
listing = record {
  limit = max_script;
  reads = λ text script. script_of text ≡ Ok (outline_of script);
  refuses = λ text refused. script_of text ≡ Err refused;
  has_form = λ text. (said : Outline) × (script_of text ≡ Ok said);
  leaves = IsListed;
  stops = λ script. StopsListing;
  tells = λ run answer taken written. IsTextTold answer (printed_rows run) taken written;
}
