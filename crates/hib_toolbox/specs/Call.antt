-- What a call of the tools promises, whatever its words.
use Rattle.std.specs.Prelude.{◌≡◌, ◌≢◌, ◌↔◌, Some, None, Option}
use Rattle.hib_call.specs.declared.status.Status.{Status}
use Rattle.hib_call.specs.Called.{IsCalled}
use Rattle.hib_call.specs.Outside.{Outside}
use Rattle.hib_base.specs.declared.scripts.Script.{Script}
use Rattle.hib_input.specs.declared.with_journal.WithJournal.{WithJournal}
use Rattle.hib_words.specs.declared.tools.Tool.{Tool}
use Rattle.hib_words.specs.declared.tools.Tool.TheVariants as tool
use Rattle.hib_toolbox.specs.declared.ended.Said.{Said}
use Rattle.hib_toolbox.specs.declared.orders.Explored.{Explored}
use Rattle.hib_toolbox.specs.Exploring.{IsSaid, IsSaidOf, exploring, finding_numbered, showing}
use Rattle.hib_toolbox.specs.declared.repeat.Repeated.{Repeated}
use Rattle.hib_toolbox.specs.declared.show.Shown.{Shown}
use Rattle.hib_toolbox.specs.Data.{flattening, tracing}
use Rattle.hib_toolbox.specs.Listing.{listing}
use Rattle.hib_toolbox.specs.Repeating.{IsSaidOfRepeat, repeating}
use Rattle.hib_toolbox.specs.Reporting.{reporting}
use Rattle.hib_toolbox.specs.Stating.{stating}
use Rattle.hib_toolbox.specs.declared.states.States.{States}

-- what is asked for is done by the call of a command
abbrev pub DoesTool : Tool → Outside → Outside → Status → Said → Type 0
DoesTool tool.Report old new answer said = (run : Option WithJournal) × IsCalled reporting old new answer run × (said ≡ Said.Nothing)
DoesTool (tool.Flat csv) old new answer said = (run : Option WithJournal) × IsCalled (flattening csv) old new answer run × (said ≡ Said.Nothing)
DoesTool (tool.Spans jaeger) old new answer said = (run : Option WithJournal) × IsCalled tracing old new answer run × (said ≡ Said.Nothing)
DoesTool tool.States old new answer said = (run : Option States) × IsCalled stating old new answer run × (said ≡ Said.Nothing)
DoesTool tool.Schedule old new answer said = (run : Option Repeated) × IsCalled repeating old new answer run × IsSaidOfRepeat answer run said
DoesTool tool.Rows old new answer said = (run : Option Script) × IsCalled listing old new answer run × (said ≡ Said.Nothing)
DoesTool (tool.Orders switches kills at_most None) old new answer said =
    (run : Option Explored) × IsCalled (exploring switches kills at_most) old new answer run × IsSaid answer run said
DoesTool (tool.Orders switches kills at_most (Some k)) old new answer said =
    (run : Option Shown) × IsCalled (showing switches kills at_most (finding_numbered k)) old new answer run
    × IsSaidOf (finding_numbered k) answer run said

-- and if the words have no form, nothing is done
unfoldable pub DoesIf : Option Tool → Outside → Outside → Status → Said → Type 0
DoesIf None old new answer said = (new ≡ old) × (said ≡ Said.Nothing)
DoesIf (Some asked) old new answer said = DoesTool asked old new answer said

pub record Promised (asked : Option Tool) (old new : Outside) (answer : Status) (said : Said) : Type 0 where
  pub does : DoesIf asked old new answer said
  -- unless memory runs out, words without a form are told from others
  pub usage : answer ≢ Status.NoMemory → ((answer ≡ Status.Usage) ↔ (asked ≡ None))
