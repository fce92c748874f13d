use Rattle.std.proofs.Common.{◌-◌, ℕ, subst, arith}
use Rattle.std.specs.Prelude.{None}
use Rattle.hib_traces.proofs.Stood.{AreCut, first_late, last_stands, other_last}
use Rattle.hib_traces.proofs.standing.standing_at.Goals as goal

pub returns-then-count-eq0 : goal.returns-then-count-eq0
returns-then-count-eq0 c = λ t.
    let cut : AreCut c.args.places.now c.args.row c.args.end c.count_ready-count.result = record {
      order = c.requires;
      bound = c.count_ready-count.ensures.bound;
      ready = c.count_ready-count.ensures.ready;
      late = c.count_ready-count.ensures.late;
    } in
    first_late c.args.places.now c.args.row c.args.end t (subst (λ (n : ℕ). AreCut c.args.places.now c.args.row c.args.end n) c.if-count-eq0.true cut)

pub returns-then-last-row : goal.returns-then-last-row
returns-then-last-row c = λ t.
    let cut : AreCut c.args.places.now c.args.row c.args.end c.count_ready-count.result = record {
      order = c.requires;
      bound = c.count_ready-count.ensures.bound;
      ready = c.count_ready-count.ensures.ready;
      late = c.count_ready-count.ensures.late;
    } in
    last_stands c.args.places.now c.args.row c.args.end (c.count_ready-count.result - 1) t (record { row = 0; ready = 0; gone = None })
    (subst (λ (n : ℕ). AreCut c.args.places.now c.args.row c.args.end n) (omega (arith, c.if-count-eq0.false)) cut) c.if-last-row.true

pub returns-else-last-row : goal.returns-else-last-row
returns-else-last-row c = λ t.
    let cut : AreCut c.args.places.now c.args.row c.args.end c.count_ready-count.result = record {
      order = c.requires;
      bound = c.count_ready-count.ensures.bound;
      ready = c.count_ready-count.ensures.ready;
      late = c.count_ready-count.ensures.late;
    } in
    other_last c.args.places.now c.args.row c.args.end (c.count_ready-count.result - 1) t (record { row = 0; ready = 0; gone = None })
    (subst (λ (n : ℕ). AreCut c.args.places.now c.args.row c.args.end n) (omega (arith, c.if-count-eq0.false)) cut) c.if-last-row.false
