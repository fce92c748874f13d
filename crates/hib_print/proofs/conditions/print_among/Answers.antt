use Rattle.hib_print.proofs.Added.{adds_more, on_ok}
use Rattle.hib_print.proofs.conditions.print_among.Goals as goal

pub returns : goal.returns
returns c = on_ok c.right.result c.right.ensures (λ r. adds_more (adds_more c.in_ok-print_test.ensures c.in_ok-cells.ensures) r)
