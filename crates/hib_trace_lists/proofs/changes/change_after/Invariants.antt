use Rattle.std.proofs.Common.{◌≡◌, ℕ, take}
use Rattle.std.specs.Prelude.{List}
use Rattle.hib_trace_law.specs.declared.commits.Commit.{Commit}
use Rattle.hib_trace_law.specs.Certain.{ended_before}
use Rattle.hib_trace_lists.specs.Lists.{changed}
use Rattle.hib_trace_lists.specs.Loads.{TellChanges}
use Rattle.hib_trace_lists.proofs.changes.change_after.Given as goal

abbrev pub invariant-loop-at : goal.invariant-loop-at
invariant-loop-at l = (cs : ℕ → List Commit) → TellChanges cs l.tables → (t : ℕ) → changed cs (take l.at l.of) l.instant t ≡ ended_before l.first t
