use Rattle.std.proofs.Common.{◌≡◌, true, subst, sym}
use Rattle.hib_base.specs.Tables.{in_order}
use Rattle.hib_outside.proofs.Orders.{in_order_change}
use Rattle.hib_query_eval.proofs.index.Index.with_change.Goals as goal

pub invariant_of-result : goal.invariant_of-result
invariant_of-result c = (
  subst (λ t. in_order t ≡ true) (sym c.in_ok-lay_one.ensures.rows) (in_order_change c.args.change.now c.self.inside.rows.items c.self.invariant.0),
  c.in_ok-lay_one.ensures.indexed,
)
