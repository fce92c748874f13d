use Rattle.std.proofs.Common.{◌∙◌, not, ◌&&◌, None, Bool, ap, sym, refl}
use Rattle.hib_journal.specs.Types.{Key, Row}
use Rattle.hib_query_eval.specs.Enough.{is_listed}
use Rattle.hib_query_eval.specs.Orders.{is_behind, is_alike}
use Rattle.hib_query_eval.proofs.Enough.{row_more, row_passed, rows_done}
use Rattle.hib_query_eval.proofs.Nearer.{all_more, all_done}
use Rattle.hib_query_eval.proofs.foremost.not_behind.Goals as goal
use Rattle.hib_query_eval.proofs.foremost.not_behind.Goals.{then-is_near+in_ok-push, else-is_near}

pub loop-row-preserved : goal.loop-row-preserved
loop-row-preserved c =
    let near : Key × Row → Bool = λ a. not (is_behind c.args.sort.now c.args.bound.now a) && is_listed c.args.query.now c.args.view.now a in
    record {
      met = elim c.if-is_near.branch [
        | then-is_near+in_ok-push w ↦
            row_more (λ r. r.now) near None c.args.rows.now c.loop-row.met.items c.loop-row.row-index c.loop-row.invariant.met
            c.row-item.result _ c.if-is_near.met.items c.loop-row-test.true c.row-item.is refl
            (sym c.is_near.ensures ∙ w.if-is_near.true) refl (ap (λ v. v.items) w.met-is ∙ w.in_ok-push.ensures.items)
        | else-is_near w ↦
            row_passed (λ r. r.now) near None c.args.rows.now c.loop-row.met.items c.loop-row.row-index c.loop-row.invariant.met
            c.row-item.result c.if-is_near.met.items c.loop-row-test.true c.row-item.is (sym c.is_near.ensures ∙ w.if-is_near.false) (ap (λ v. v.items) w.met-is)
      ];
      alike = all_more (is_alike c.args.sort.now c.args.bound.now) c.args.rows.now c.loop-row.row-index c.row-item.result c.loop-row-test.true c.row-item.is
          c.loop-row.invariant.alike (sym c.is_alike.ensures ∙ c.if-not-is_alike.false);
    }

pub returns-clause-met : goal.returns-clause-met
returns-clause-met c =
    rows_done (λ r. r.now) (λ a. not (is_behind c.args.sort.now c.args.bound.now a) && is_listed c.args.query.now c.args.view.now a) None c.args.rows.now c.loop-row.met.items
    c.loop-row.row-index c.loop-row.invariant.met c.loop-row-test.false

pub returns-clause-alike : goal.returns-clause-alike
returns-clause-alike c = all_done (is_alike c.args.sort.now c.args.bound.now) c.args.rows.now c.loop-row.row-index c.loop-row-test.false c.loop-row.invariant.alike
