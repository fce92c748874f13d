use Rattle.hib_outside.proofs.Orders.{in_order_changes}
use Rattle.hib_query_eval.proofs.view.View.over.Goals as goal

pub returns-clause-ordered : goal.returns-clause-ordered
returns-clause-ordered c = in_order_changes c.args.changes.now c.args.rows.now c.requires.ordered
