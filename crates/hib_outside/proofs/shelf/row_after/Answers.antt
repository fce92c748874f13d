use Rattle.std.proofs.Common.{◌∙◌, ap, sym, option_copied}
use Rattle.hib_base.proofs.Tables.{left_by}
use Rattle.hib_base.specs.Tables.{row_at}
use Rattle.hib_outside.proofs.Commits.{row_after_last}
use Rattle.hib_outside.proofs.shelf.row_after.Goals as goal

pub returns-in-Some : goal.returns-in-Some
returns-in-Some c = λ n h.
    c.row_left.ensures
    ∙ ap (λ o. left_by o (row_at c.args.rows.now c.args.key.now)) (sym (ap option_copied c.in-Some.is) ∙ c.last_change.ensures)
    ∙ row_after_last c.args.batch.now n c.args.rows.now c.args.key.now c.args.lasts.now.entries h

pub returns-in-None : goal.returns-in-None
returns-in-None c = λ n h.
    c.row_of.ensures
    ∙ ap (λ o. left_by o (row_at c.args.rows.now c.args.key.now)) (sym (ap option_copied c.in-None.is) ∙ c.last_change.ensures)
    ∙ row_after_last c.args.batch.now n c.args.rows.now c.args.key.now c.args.lasts.now.entries h
