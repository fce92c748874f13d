use Rattle.std.proofs.Common.{refl}
use Rattle.hib_make.proofs.rows.push_shelf.Goals as goal

pub returns-clause-made : goal.returns-clause-made
returns-clause-made c = rw (c.in_ok-push.ensures.items, c.in_ok-row.ensures, c.in_ok-cells.ensures.items, c.in_ok-label.ensures, c.truth.ensures, c.draw-full.ensures.drawn) refl
