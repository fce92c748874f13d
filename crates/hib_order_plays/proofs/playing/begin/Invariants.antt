use Rattle.std.proofs.Common.{◌≡◌, [], reverse, take, true}
use Rattle.hib_base.specs.Tables.{Tables}
use Rattle.hib_journal.specs.Kept.{past}
use Rattle.hib_order_law.specs.Orders.{IsUndisturbed, can_begin, steps_in}
use Rattle.hib_order_plays.specs.Starts.{are_steps}
use Rattle.hib_order_plays.proofs.playing.begin.Given as goal

abbrev pub invariant-loop-step : goal.invariant-loop-step
invariant-loop-step g l = record {
  steps : are_steps (past l.fn.factory.journal) ≡ true → are_steps (past l.factory.journal) ≡ true;
  made : (start : Tables) → past l.fn.factory.journal ≡ [] → can_begin g.N.Name.script start [] l.steps ≡ true
      → IsUndisturbed g.N.Name.script start (past l.factory.journal)
      → steps_in (past l.factory.journal) ≡ reverse (take l.step-index l.steps);
}
