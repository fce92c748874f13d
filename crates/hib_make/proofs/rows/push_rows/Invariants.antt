use Rattle.hib_make.specs.Draws.{many}
use Rattle.hib_make.specs.Rows.{form_row}
use Rattle.hib_make.proofs.Many.{Grown}
use Rattle.hib_make.proofs.rows.push_rows.Given as goal

abbrev pub invariant-loop-i : goal.invariant-loop-i
invariant-loop-i l = Grown l.fn.rows.items l.rows.items l.draws (many (form_row l.form) l.i l.fn.draws)
