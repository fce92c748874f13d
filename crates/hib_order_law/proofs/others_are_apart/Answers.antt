use Rattle.hib_order_law.proofs.Search.{others_differ, others_apart, others_longer}
use Rattle.hib_order_law.proofs.others_are_apart.Goals as goal

pub returns : goal.returns
returns c = record { differ = others_differ; apart = others_apart; longer = others_longer }
