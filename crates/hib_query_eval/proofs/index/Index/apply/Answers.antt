use Rattle.std.proofs.Common.{◌≡◌, true, subst, sym, ◌∙◌}
use Rattle.hib_base.specs.Tables.{in_order, after_change}
use Rattle.hib_outside.proofs.Orders.{in_order_change}
use Rattle.hib_query_eval.proofs.Indexed.{next_changes, next_answer}
use Rattle.hib_query_eval.proofs.index.Index.apply.Goals as goal

pub loop-change-preserved : goal.loop-change-preserved
loop-change-preserved c =
    let done : c.change_one.new.rows.items ≡ after_change c.change-item.result c.loop-change.rows.items = c.in_ok-change_one.ensures.rows c.if-not-branch.false in
    record {
      ordered = subst (λ t. in_order t ≡ true) (sym done) (in_order_change c.change-item.result c.loop-change.rows.items c.loop-change.invariant.ordered);
      indexed = c.in_ok-change_one.ensures.indexed c.if-not-branch.false;
      left = next_changes c.args.changes.now c.loop-change.change-index c.change-item.result c.args.self c.loop-change.rows.items c.change_one.new.rows.items
          c.loop-change-test.true c.change-item.is c.loop-change.invariant.left done;
      decides = next_answer c.args.changes.now c.loop-change.change-index c.change-item.result c.args.self c.loop-change.rows.items c.change_one.new.rows.items
          c.loop-change-test.true c.change-item.is c.loop-change.invariant.decides done (sym c.in_ok-change_one.ensures.applied ∙ c.if-not-branch.false);
    }
