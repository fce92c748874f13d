use Rattle.std.proofs.Common.{◌≡◌, ◌∙◌, ap, sym, refl, length, arith}
use Rattle.hib_query_eval.specs.Enough.{is_enough, is_listed}
use Rattle.hib_query_eval.proofs.Enough.{row_more, row_passed, rows_enough, rows_done}
use Rattle.hib_query_eval.proofs.listing.listed.Goals as goal
use Rattle.hib_query_eval.proofs.listing.listed.Goals.{then-is_listed+in_ok-push, else-is_listed}

pub returns-then-is_enough : goal.returns-then-is_enough
returns-then-is_enough c =
    let n : length c.loop-row.met.items ≡ c.len.result = omega (arith, c.len.ensures) in
    rows_enough (λ r. r.now) (is_listed c.args.query.now c.args.view.now) c.args.most c.args.rows.now c.loop-row.met.items c.loop-row.row-index c.loop-row.invariant
    (ap (λ m. is_enough m c.args.most) n ∙ sym c.is_enough.ensures ∙ c.if-is_enough.true)

pub loop-row-preserved : goal.loop-row-preserved
loop-row-preserved c =
    let n : length c.loop-row.met.items ≡ c.len.result = omega (arith, c.len.ensures) in
    elim c.if-is_listed.branch [
      | then-is_listed+in_ok-push w ↦
          row_more (λ r. r.now) (is_listed c.args.query.now c.args.view.now) c.args.most c.args.rows.now c.loop-row.met.items c.loop-row.row-index c.loop-row.invariant
          c.row-item.result _ c.if-is_listed.met.items c.loop-row-test.true c.row-item.is (ap (λ m. is_enough m c.args.most) n ∙ sym c.is_enough.ensures ∙ c.if-is_enough.false)
          (sym c.is_listed.ensures ∙ w.if-is_listed.true) refl (ap (λ v. v.items) w.met-is ∙ w.in_ok-push.ensures.items)
      | else-is_listed w ↦
          row_passed (λ r. r.now) (is_listed c.args.query.now c.args.view.now) c.args.most c.args.rows.now c.loop-row.met.items c.loop-row.row-index c.loop-row.invariant
          c.row-item.result c.if-is_listed.met.items c.loop-row-test.true c.row-item.is (sym c.is_listed.ensures ∙ w.if-is_listed.false) (ap (λ v. v.items) w.met-is)
    ]

pub returns : goal.returns
returns c =
    rows_done (λ r. r.now) (is_listed c.args.query.now c.args.view.now) c.args.most c.args.rows.now c.loop-row.met.items c.loop-row.row-index c.loop-row.invariant c.loop-row-test.false
