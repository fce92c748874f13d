use Rattle.std.proofs.Common.{refl}
use Rattle.hib_make.proofs.rows.push_customer.Goals as goal

pub returns-clause-made : goal.returns-clause-made
returns-clause-made c = rw (c.in_ok-push.ensures.items, c.in_ok-row.ensures, c.in_ok-cells.ensures.items, c.in_ok-name.ensures, c.number.ensures, c.draw-credit.ensures.drawn) refl
