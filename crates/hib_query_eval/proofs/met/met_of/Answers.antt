use Rattle.std.proofs.Common.{◌∙◌, None, ap, sym, refl}
use Rattle.hib_query_eval.specs.Met.{meets}
use Rattle.hib_query_eval.proofs.Enough.{row_more, row_passed, rows_done}
use Rattle.hib_query_eval.proofs.met.met_of.Goals as goal
use Rattle.hib_query_eval.proofs.met.met_of.Goals.{then-is_met+in_ok-push, else-is_met}

pub loop-row-preserved : goal.loop-row-preserved
loop-row-preserved c =
    elim c.if-is_met.branch [
      | then-is_met+in_ok-push w ↦
          row_more (λ r. r.now) (meets c.args.entity c.args.condition.now c.args.view.now) None c.args.rows.now c.loop-row.met.items c.loop-row.row-index c.loop-row.invariant
          c.row-item.result _ c.if-is_met.met.items c.loop-row-test.true c.row-item.is refl
          (sym c.is_met.ensures ∙ w.if-is_met.true) refl (ap (λ v. v.items) w.met-is ∙ w.in_ok-push.ensures.items)
      | else-is_met w ↦
          row_passed (λ r. r.now) (meets c.args.entity c.args.condition.now c.args.view.now) None c.args.rows.now c.loop-row.met.items c.loop-row.row-index c.loop-row.invariant
          c.row-item.result c.if-is_met.met.items c.loop-row-test.true c.row-item.is (sym c.is_met.ensures ∙ w.if-is_met.false) (ap (λ v. v.items) w.met-is)
    ]

pub returns : goal.returns
returns c =
    rows_done (λ r. r.now) (meets c.args.entity c.args.condition.now c.args.view.now) None c.args.rows.now c.loop-row.met.items c.loop-row.row-index c.loop-row.invariant c.loop-row-test.false
