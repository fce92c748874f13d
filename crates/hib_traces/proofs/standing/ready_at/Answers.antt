use Rattle.std.proofs.Common.{arith}
use Rattle.std.specs.Prelude.{None}
use Rattle.hib_traces.proofs.Stood.{AreSplit, first_ready, no_ready}
use Rattle.hib_traces.proofs.standing.ready_at.Goals.{else-count-places-via-then-count-places+else-places-count, else-count-places-via-else-count-places}
use Rattle.hib_traces.proofs.standing.ready_at.Goals as goal

pub returns-then-places-count : goal.returns-then-places-count
returns-then-places-count c = λ e.
    let split : AreSplit c.args.places.now c.args.row c.args.instant c.count_behind-count.result = record {
      order = c.requires;
      behind = c.count_behind-count.ensures.behind;
      within = c.count_behind-count.ensures.within;
    } in
    first_ready c.args.places.now c.args.row e c.args.instant c.count_behind-count.result (record { row = 0; ready = 0; gone = None }) split
    c.if-count-places.true c.if-places-count.true

pub returns-else-count-places : goal.returns-else-count-places
returns-else-count-places c = λ e.
    let split : AreSplit c.args.places.now c.args.row c.args.instant c.count_behind-count.result = record {
      order = c.requires;
      behind = c.count_behind-count.ensures.behind;
      within = c.count_behind-count.ensures.within;
    } in
    no_ready c.args.places.now c.args.row e c.args.instant c.count_behind-count.result (record { row = 0; ready = 0; gone = None }) split
    (λ l s. elim c.else-count-places.branch [
      | else-count-places-via-then-count-places+else-places-count w ↦ w.if-places-count.false s
      | else-count-places-via-else-count-places w ↦ omega (arith, l, w.if-count-places.false)
    ])
