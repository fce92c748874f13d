use Rattle.hib_order_law.proofs.Due.{others_due}
use Rattle.hib_order_law.proofs.others_can_begin.Goals as goal

pub returns : goal.returns
returns c = record { due = others_due }
