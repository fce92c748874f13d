use Rattle.hib_outside.proofs.Places.{row_at_ok, row_at_err}
use Rattle.hib_outside.proofs.keyed.row_of.Goals as goal

pub returns-in-Ok : goal.returns-in-Ok
returns-in-Ok c = row_at_ok c.args.rows.now c.args.key.now c.in-Ok.at _ c.requires c.in-Ok.ensures.within c.in-Ok.ensures.place

pub returns-in-Err : goal.returns-in-Err
returns-in-Err c = row_at_err c.args.rows.now c.args.key.now _ c.requires c.in-Err.ensures.place
