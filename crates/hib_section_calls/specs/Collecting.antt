-- The run of a script with collections.
use Rattle.std.specs.Prelude.{◌≡◌, ℕ, Bool, true, false, List, codes, Some, None, Option, Result, Ok, Err}
use Rattle.hib_base.specs.declared.refusals.Refused.{Refused}
use Rattle.hib_engines.specs.Counts.{RoseBy, RoseWithin}
use Rattle.hib_engines.specs.Origin.{told_start}
use Rattle.hib_journal.specs.Runs.{told_committed, fault_count}
use Rattle.hib_collections_law.specs.declared.entries.Def.{Def}
use Rattle.hib_collections_law.specs.Gathered.{plain}
use Rattle.hib_collections.specs.Kept.{past}
use Rattle.hib_collections.specs.Gather.{heard_in}
use Rattle.hib_collections.specs.Obeyed.{Obeys}
use Rattle.hib_collections.specs.Played.{AreOver, is_played}
use Rattle.hib_collections.specs.Run.{ask_count}
use Rattle.hib_collections.specs.Text.{gathered_text}
use Rattle.hib_script.specs.Outline.{Outline, outline_of}
use Rattle.hib_input.specs.WithSection.{Sectioned, section_of}
use Rattle.hib_sections.specs.Collections.{collections_of}
use Rattle.hib_call.specs.declared.status.Status.{Status}
use Rattle.hib_call.specs.Command.{Command}
use Rattle.hib_call.specs.Limits.{max_script}
use Rattle.hib_call.specs.Ends.{IsTextTold}
use Rattle.hib_call.specs.Outside.{Shared}
use Rattle.hib_section_calls.specs.declared.collect.Gathering.{Gathering}
use Rattle.hib_section_calls.specs.declared.collect.Collected.{Collected}
use Rattle.hib_call.specs.Runs.{AreHandedBack, IsUnrun, most_asked}

-- ---- what a text says: a script, and collections after a line `collections`; or its first bad line
abbrev pub with_collections : Outline → Result (List Def) Refused → Result (Outline × List Def) Refused
with_collections said (Err r) = Err r
with_collections said (Ok defs) = Ok (said, defs)

abbrev pub if_sectioned : Result Sectioned Refused → Result (Outline × List Def) Refused
if_sectioned (Err r) = Err r
if_sectioned (Ok s) = with_collections s.script (collections_of s.script.mapping s.before.lines s.behind.lines)

abbrev pub gathering_of : List ℕ → Result (Outline × List Def) Refused
gathering_of text = if_sectioned (section_of (codes "collections") text)

-- ---- what a run leaves
-- what the keeper and the listeners tell after a run is what its journal says, and the journal obeys the law of collections. It begins
-- with the rows that the keeper kept, with the script's rows; short says whether memory ran out
pub record IsCollected (short : Bool) (input : Gathering) (old new : Shared) (run : Collected) : Type 0 where
  pub script : run.script ≡ input.script
  pub defs : run.defs ≡ input.defs
  pub obeys : Obeys input.script input.defs (told_start input.script old.tables) (past run.journal)
  pub rows : new.tables ≡ told_committed (told_start input.script old.tables) (plain input.script (past run.journal))
  pub faults : RoseBy old.faults (fault_count (plain input.script (past run.journal))) new.faults
  pub asked : RoseWithin old.asked (most_asked short (ask_count input.script (past run.journal))) new.asked
  pub listeners : AreHandedBack short (heard_in input.script (past run.journal)) old.told new.told

-- a run came to its end: that of each session, by the schedule
pub record Leaves (input : Gathering) (old new : Shared) (run : Collected) : Type 0 where
  pub collected : IsCollected false input old new run
  pub over : AreOver input.script input.defs (past run.journal)
  pub played : is_played input.script input.defs (past run.journal) ≡ true

-- it didn't: memory ran out, on the way or before the first step, or the keeper didn't take the script's rows
abbrev pub Stops : Gathering → Shared → Shared → Status → Option Collected → Type 0
Stops input old new Status.NoMemory (Some run) = IsCollected true input old new run
Stops input old new Status.NoMemory None = IsUnrun old new
Stops input old new Status.StoreFault None = IsUnrun old new
Stops input old new _ _ = ⊥

-- ---- the command
abbrev pub collecting : Command Gathering Collected
collecting = record {
  limit = max_script;
  reads = λ text input. gathering_of text ≡ Ok (outline_of input.script, input.defs);
  refuses = λ text refused. gathering_of text ≡ Err refused;
  has_form = λ text. (said : Outline × List Def) × (gathering_of text ≡ Ok said);
  leaves = Leaves;
  stops = Stops;
  tells = λ run answer taken written. IsTextTold answer (gathered_text run.script run.defs run.journal.list) taken written;
}
