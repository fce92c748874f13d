use Rattle.std.proofs.Common.{◌∙◌, arith}
use Rattle.std.proofs.lemmas.Bool.{le-ltb}
use Rattle.std.proofs.Common.{sym}
use Rattle.hib_traces.proofs.Steps.{first_below, none_below}
use Rattle.hib_traces.proofs.marks.furthest_below.Goals as goal

pub returns-then-count-steps : goal.returns-then-count-steps
returns-then-count-steps c = λ k.
    first_below c.args.steps.now k c.args.limit c.count_above-count.result (record { at = 0; value = 0 }) c.requires.falls c.if-count-steps.true
    c.count_above-count.ensures.above c.count_above-count.ensures.below

pub returns-else-count-steps : goal.returns-else-count-steps
returns-else-count-steps c = λ k.
    none_below c.args.steps.now k c.args.limit (λ i d l. c.count_above-count.ensures.above i d (omega (arith, l, c.if-count-steps.false)))
    ∙ sym (le-ltb k 0 (omega arith))
