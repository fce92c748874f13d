use Rattle.std.proofs.Common.{length, sym, ◌∙◌, arith}
use Rattle.std.proofs.lemmas.Bool.{le-ltb}
use Rattle.std.specs.Prelude.{None}
use Rattle.hib_traces.proofs.Stood.{AreSplit, row_absent, row_here}
use Rattle.hib_traces.proofs.standing.has_row.Goals as goal

pub returns-then-count-places : goal.returns-then-count-places
returns-then-count-places c =
    let split : AreSplit c.args.places.now c.args.row 0 c.count_behind-count.result = record {
      order = c.requires;
      behind = c.count_behind-count.ensures.behind;
      within = c.count_behind-count.ensures.within;
    } in
    row_here c.args.places.now c.args.row c.count_behind-count.result (record { row = 0; ready = 0; gone = None }) split c.if-count-places.true

pub returns-else-count-places : goal.returns-else-count-places
returns-else-count-places c =
    let split : AreSplit c.args.places.now c.args.row 0 c.count_behind-count.result = record {
      order = c.requires;
      behind = c.count_behind-count.ensures.behind;
      within = c.count_behind-count.ensures.within;
    } in
    le-ltb c.count_behind-count.result (length c.args.places.now) c.if-count-places.false
    ∙ sym (row_absent c.args.places.now c.args.row c.count_behind-count.result (record { row = 0; ready = 0; gone = None }) split
    (λ l s. omega (arith, l, c.if-count-places.false)))
