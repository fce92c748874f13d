use Rattle.hib_traces.proofs.Steps.{IsStepped}
use Rattle.hib_traces.proofs.marks.stairs.Given as goal

abbrev pub invariant-loop-mark : goal.invariant-loop-mark
invariant-loop-mark l = IsStepped l.marks l.mark-index l.steps.items
