use Rattle.std.proofs.Common.{◌≤◌, ◌-◌, length, arith}
use Rattle.hib_traces.proofs.Steps.{none_beyond, last_beyond}
use Rattle.hib_traces.proofs.marks.least_beyond.Goals as goal

pub returns-then-count-eq0 : goal.returns-then-count-eq0
returns-then-count-eq0 c = λ t. none_beyond c.args.steps.now c.args.limit t (λ i d l. c.count_beyond-count.ensures.within i d (omega arith) l)

pub returns-else-count-eq0 : goal.returns-else-count-eq0
returns-else-count-eq0 c = λ t.
    last_beyond c.args.steps.now c.args.limit t (c.count_beyond-count.result - 1) (record { at = 0; value = 0 }) c.requires.falls
    (let b : c.count_beyond-count.result ≤ length c.args.steps.now = c.count_beyond-count.ensures.bound in omega (arith, b, c.if-count-eq0.false))
    (λ i d l. c.count_beyond-count.ensures.beyond i d (omega (arith, l, c.if-count-eq0.false)))
    (λ i d l m. c.count_beyond-count.ensures.within i d (omega (arith, l, c.if-count-eq0.false)) m)
