use Rattle.std.proofs.Common.{◌≡◌, true, subst, sym}
use Rattle.hib_base.specs.Tables.{in_order}
use Rattle.hib_order_judge.proofs.Kept.{laid_more}
use Rattle.hib_outside.proofs.Orders.{in_order_change}
use Rattle.hib_order_judge.proofs.laying.lay_all.Goals as goal

pub loop-change-preserved : goal.loop-change-preserved
loop-change-preserved c = record {
  rows = laid_more c.args.changes.now c.loop-change.change-index c.change-item.result c.args.rows c.loop-change.rows.items c.lay.new.rows.items
      c.loop-change-test.true c.change-item.is c.loop-change.invariant.rows c.in_ok-lay.ensures;
  ordered = subst (λ t. in_order t ≡ true) (sym c.in_ok-lay.ensures) (in_order_change c.change-item.result.now c.loop-change.rows.items c.loop-change.invariant.ordered);
}
