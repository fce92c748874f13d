-- The states of a journal that comes after its script.
use Rattle.std.specs.Prelude.{◌≡◌, ℕ, List, Some, None, Option}
use Rattle.hib_audit.specs.Breaks.{start_rows}
use Rattle.hib_call.specs.Command.{Command}
use Rattle.hib_call.specs.Ends.{IsTextTold}
use Rattle.hib_call.specs.Limits.{max_journal}
use Rattle.hib_call.specs.Outside.{Shared}
use Rattle.hib_call.specs.declared.status.Status.{Status}
use Rattle.hib_input.specs.WithJournal.{IsInput, IsBadInput, IsWholeInput}
use Rattle.hib_input.specs.declared.with_journal.WithJournal.{WithJournal}
use Rattle.hib_journal.specs.Kept.{past}
use Rattle.hib_audit.specs.Audit.{BreaksAt}
use Rattle.hib_base.specs.Tables.{Tables}
use Rattle.hib_journal.specs.Legal.{IsLegal}
use Rattle.hib_journal.specs.Sessions.{Journal}
use Rattle.hib_journal.specs.Types.{Script}
use Rattle.hib_law.specs.Law.{Coheres}
use Rattle.hib_states.specs.States.{states_text}
use Rattle.hib_toolbox.specs.declared.states.States.{States}

-- the states of a legal journal, of which the law holds: so what is told of a refusal is its cause by `HasCause`. Else its first entry that isn't legal
abbrev pub IsTold : Script → Tables → Journal → States → Type 0
IsTold script start h (States.Told text) = IsLegal script (Some start) h × Coheres script start h × (text.items ≡ states_text script start h)
IsTold script start h (States.Illegal n kind) = BreaksAt script start h n kind

-- what is told of the journal, from the script's rows; and nothing was run
pub record AreStates (input : WithJournal) (old new : Shared) (states : States) : Type 0 where
  pub told : IsTold input.script (start_rows input.script) (past input.journal) states
  pub same : new ≡ old

-- memory may run out before
abbrev pub StopsStating : Shared → Shared → Status → Option States → Type 0
StopsStating old new Status.NoMemory None = new ≡ old
StopsStating old new _ _ = ⊥

-- the states are written, or else which entry isn't legal is said by the status
abbrev pub TellsStates : States → Status → Option (List ℕ) → Option (List ℕ) → Type 0
TellsStates (States.Told text) answer taken written = IsTextTold answer text.items taken written
TellsStates (States.Illegal entry kind) answer taken written = (answer ≡ Status.Illegal entry kind) × (written ≡ taken)

-- ---- the command
abbrev pub stating : Command WithJournal States
stating = record {
  limit = max_journal;
  reads = λ text input. IsInput text input.script input.journal.list;
  refuses = IsBadInput;
  has_form = IsWholeInput;
  leaves = AreStates;
  stops = λ input. StopsStating;
  tells = TellsStates;
}
