use Rattle.hib_toolbox.proofs.flat.tell_columns.Goals as goal

pub returns-in-Ok-clause-told : goal.returns-in-Ok-clause-told
returns-in-Ok-clause-told g c = rw c.as_slice.ensures at c.in-Ok.ensures.whole
