use Rattle.hib_outside.proofs.Places.{without_row_ok, without_row_err}
use Rattle.hib_outside.proofs.keyed.take_out.Goals as goal

pub returns-in-Ok-clause-rows : goal.returns-in-Ok-clause-rows
returns-in-Ok-clause-rows c =
    without_row_ok _ _ _ c.args.key.now c.in-Ok.at c.requires c.as_slice.ensures.value c.in-Ok.ensures.place c.remove.ensures.items

pub returns-in_default-clause-rows : goal.returns-in_default-clause-rows
returns-in_default-clause-rows c =
    without_row_err _ _ c.args.key.now _ c.requires c.as_slice.ensures.value c.in_default.ensures.place
