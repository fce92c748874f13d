-- The run of a script at two nodes over one store.
use Rattle.std.specs.Prelude.{◌≡◌, ℕ, Bool, true, false, List, [], codes, Some, None, Option, Result, Ok, Err}
use Rattle.hib_base.specs.declared.refusals.Refused.{Refused}
use Rattle.hib_journal.specs.Runs.{told_committed, fault_count, ask_count}
use Rattle.hib_engines.specs.Counts.{RoseBy, RoseWithin}
use Rattle.hib_engines.specs.Origin.{told_start}
use Rattle.hib_nodes_law.specs.declared.nodes.NodeOrder.{NodeOrder}
use Rattle.hib_nodes_law.specs.Nodes.{entries, queue}
use Rattle.hib_nodes_law.specs.Types.{Nodings}
use Rattle.hib_nodes.specs.Kept.{past}
use Rattle.hib_nodes.specs.Played.{AreOver, is_played}
use Rattle.hib_nodes.specs.Run.{Obeys}
use Rattle.hib_nodes.specs.Standing.{is_node}
use Rattle.hib_nodes.specs.Text.{noded_text}
use Rattle.hib_script.specs.Outline.{Outline, outline_of}
use Rattle.hib_input.specs.WithSection.{Sectioned, section_of}
use Rattle.hib_sections.specs.Places.{places_of}
use Rattle.hib_call.specs.declared.status.Status.{Status}
use Rattle.hib_call.specs.Command.{Command}
use Rattle.hib_call.specs.Limits.{max_script}
use Rattle.hib_call.specs.Ends.{IsTextTold}
use Rattle.hib_call.specs.Outside.{Shared}
use Rattle.hib_section_calls.specs.declared.nodes.Placing.{Placing}
use Rattle.hib_section_calls.specs.declared.nodes.NodeRun.{NodeRun}
use Rattle.hib_call.specs.Runs.{IsUnrun, most_asked}

-- ---- what a text says: a script, and places and orders after a line `nodes`; or its first bad line
abbrev pub Said : Type 0
Said = Outline × (Nodings × List NodeOrder)

abbrev pub with_places : Outline → Result (Nodings × List NodeOrder) Refused → Result Said Refused
with_places script (Err r) = Err r
with_places script (Ok places) = Ok (script, places)

abbrev pub if_sectioned : Result Sectioned Refused → Result Said Refused
if_sectioned (Err r) = Err r
if_sectioned (Ok s) = with_places s.script (places_of s.script.mapping s.script.sessions s.before.lines s.behind)

abbrev pub placing_of : List ℕ → Result Said Refused
placing_of text = if_sectioned (section_of (codes "nodes") text)

-- ---- what a run leaves
-- what the keeper tells after a run is what its journal says, and the journal obeys the law of two nodes. It begins with the rows that
-- the keeper kept, with the script's rows; short says whether memory ran out. The listeners have heard nothing
pub record IsNoded (short : Bool) (input : Placing) (old new : Shared) (run : NodeRun) : Type 0 where
  pub script : run.script ≡ input.script
  pub places : run.places ≡ input.places
  pub obeys : Obeys input.script input.places.nodes (told_start input.script old.tables) (past run.journal)
  pub rows : new.tables ≡ told_committed (told_start input.script old.tables) (entries (past run.journal))
  pub faults : RoseBy old.faults (fault_count (entries (past run.journal))) new.faults
  pub asked : RoseWithin old.asked (most_asked short (ask_count (entries (past run.journal)))) new.asked
  pub listeners : new.told ≡ old.told

-- a run came to its end: that of each session, by the schedule, and nothing waits for a node
pub record Leaves (input : Placing) (old new : Shared) (run : NodeRun) : Type 0 where
  pub noded : IsNoded false input old new run
  pub over : AreOver input.script (past run.journal)
  pub empty : (n : ℕ) → is_node n ≡ true → queue input.script n (past run.journal) ≡ []
  pub played : is_played input.script input.places.orders (past run.journal) ≡ true

-- it didn't: memory ran out, on the way or before the first step, or the keeper didn't take the script's rows
abbrev pub Stops : Placing → Shared → Shared → Status → Option NodeRun → Type 0
Stops input old new Status.NoMemory (Some run) = IsNoded true input old new run
Stops input old new Status.NoMemory None = IsUnrun old new
Stops input old new Status.StoreFault None = IsUnrun old new
Stops input old new _ _ = ⊥

-- ---- the command
abbrev pub placing : Command Placing NodeRun
placing = record {
  limit = max_script;
  reads = λ text input. placing_of text ≡ Ok (outline_of input.script, (input.places.nodes, input.places.orders));
  refuses = λ text refused. placing_of text ≡ Err refused;
  has_form = λ text. (said : Said) × (placing_of text ≡ Ok said);
  leaves = Leaves;
  stops = Stops;
  tells = λ run answer taken written. IsTextTold answer (noded_text run.script run.journal.list) taken written;
}
