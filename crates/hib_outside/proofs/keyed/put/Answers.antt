use Rattle.hib_outside.proofs.Places.{with_row_ok, with_row_err}
use Rattle.hib_outside.proofs.keyed.put.Goals as goal

pub returns-in-Ok-clause-rows : goal.returns-in-Ok-clause-rows
returns-in-Ok-clause-rows c =
    with_row_ok _ _ c.args.key c.args.row c.in-Ok.at c.as_slice.ensures.value c.in-Ok.ensures.place

pub returns-else-is_err-clause-rows : goal.returns-else-is_err-clause-rows
returns-else-is_err-clause-rows c =
    with_row_err _ _ _ c.args.key c.args.row c.in-Err.at _ c.as_slice.ensures.value c.in-Err.ensures.place
    (c.insert.ensures.succeeds c.requires.room) c.insert.ensures.items
