use Rattle.std.proofs.Common.{Some, ap, ◌∙◌}
use Rattle.hib_query_eval.proofs.Found.{row_in_ok, row_in_err}
use Rattle.hib_query_eval.proofs.view.entry_of.Goals as goal

pub returns-in-Ok : goal.returns-in-Ok
returns-in-Ok c =
    ap Some c.index-rows-at.is ∙ row_in_ok c.args.rows.now c.args.key.now c.in-Ok.at c.index-rows-at.result c.requires c.in-Ok.ensures.within c.in-Ok.ensures.place

pub returns-in-Err : goal.returns-in-Err
returns-in-Err c = row_in_err c.args.rows.now c.args.key.now _ c.requires c.in-Err.ensures.place
