-- The run of a script with bulk changes.
use Rattle.std.specs.Prelude.{◌≡◌, ℕ, true, List, map, codes, Some, None, Option, Result, Ok, Err}
use Rattle.hib_base.specs.declared.refusals.Refused.{Refused}
use Rattle.hib_base.specs.declared.scripts.Order.{Order}
use Rattle.hib_engines.specs.Counts.{RoseBy}
use Rattle.hib_engines.specs.Origin.{told_start}
use Rattle.hib_bulk_law.specs.Legal.{IsLegal}
use Rattle.hib_bulk.specs.Kept.{past}
use Rattle.hib_bulk.specs.Played.{AreOver, is_played}
use Rattle.hib_bulk.specs.Run.{Obeys, fault_count}
use Rattle.hib_bulk.specs.Standing.{told_committed}
use Rattle.hib_bulk.specs.Text.{bulked_text}
use Rattle.hib_script.specs.Outline.{Outline, outline_of}
use Rattle.hib_input.specs.WithSection.{Sectioned, section_of}
use Rattle.hib_sections.specs.BulkLines.{BulkSaid, said_of}
use Rattle.hib_sections.specs.Bulks.{bulks_of}
use Rattle.hib_call.specs.declared.status.Status.{Status}
use Rattle.hib_call.specs.Command.{Command}
use Rattle.hib_call.specs.Limits.{max_script}
use Rattle.hib_call.specs.Ends.{IsTextTold}
use Rattle.hib_call.specs.Outside.{Shared}
use Rattle.hib_section_calls.specs.declared.bulk.Bulking.{Bulking}
use Rattle.hib_section_calls.specs.declared.bulk.BulkRun.{BulkRun}
use Rattle.hib_call.specs.Runs.{IsUnrun}

-- ---- what a text says: a script, and bulk lines and orders after a line `bulk`; or its first bad line
abbrev pub Said : Type 0
Said = Outline × (List BulkSaid × List Order)

abbrev pub with_bulks : Outline → Result (List BulkSaid × List Order) Refused → Result Said Refused
with_bulks script (Err r) = Err r
with_bulks script (Ok bulks) = Ok (script, bulks)

abbrev pub if_sectioned : Result Sectioned Refused → Result Said Refused
if_sectioned (Err r) = Err r
if_sectioned (Ok s) = with_bulks s.script (bulks_of s.script.mapping s.script.sessions s.before.lines s.behind)

abbrev pub bulking_of : List ℕ → Result Said Refused
bulking_of text = if_sectioned (section_of (codes "bulk") text)

-- ---- what a run leaves
-- what the keeper tells after a run is what its journal says, and the journal obeys the law of bulk changes. It begins with the rows that
-- the keeper kept, with the script's rows. The listeners have heard nothing
pub record IsBulked (input : Bulking) (old new : Shared) (run : BulkRun) : Type 0 where
  pub script : run.script ≡ input.script
  pub bulks : run.bulks ≡ input.bulks
  pub legal : IsLegal input.script input.bulks.lines (told_start input.script old.tables) (past run.journal)
  pub obeys : Obeys input.script input.bulks.lines (told_start input.script old.tables) (past run.journal)
  pub rows : new.tables ≡ told_committed input.script input.bulks.lines (told_start input.script old.tables) (past run.journal)
  pub faults : RoseBy old.faults (fault_count (past run.journal)) new.faults
  pub listeners : new.told ≡ old.told

-- a run came to its end: that of each session and each bulk line, by the schedule
pub record Leaves (input : Bulking) (old new : Shared) (run : BulkRun) : Type 0 where
  pub bulked : IsBulked input old new run
  pub over : AreOver input.script input.bulks.lines (past run.journal)
  pub played : is_played input.script input.bulks.lines input.bulks.orders (past run.journal) ≡ true

-- it didn't: memory ran out, on the way or before the first step, or the keeper didn't take the script's rows
abbrev pub Stops : Bulking → Shared → Shared → Status → Option BulkRun → Type 0
Stops input old new Status.NoMemory (Some run) = IsBulked input old new run
Stops input old new Status.NoMemory None = IsUnrun old new
Stops input old new Status.StoreFault None = IsUnrun old new
Stops input old new _ _ = ⊥

-- ---- the command
abbrev pub bulking : Command Bulking BulkRun
bulking = record {
  limit = max_script;
  reads = λ text input. bulking_of text ≡ Ok (outline_of input.script, (map said_of input.bulks.lines, input.bulks.orders));
  refuses = λ text refused. bulking_of text ≡ Err refused;
  has_form = λ text. (said : Said) × (bulking_of text ≡ Ok said);
  leaves = Leaves;
  stops = Stops;
  tells = λ run answer taken written. IsTextTold answer (bulked_text run.script run.bulks.lines run.journal.list) taken written;
}
