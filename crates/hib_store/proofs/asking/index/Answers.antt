use Rattle.std.proofs.Common.{ap, ◌∙◌}
use Rattle.hib_outside.specs.Keeps.{is_listed}
use Rattle.hib_store.proofs.Kept.{asked_rows}
use Rattle.hib_store.proofs.asking.index.Goals as goal

pub returns-in-Ok-clause-rows : goal.returns-in-Ok-clause-rows
returns-in-Ok-clause-rows g c =
    asked_rows c.args.entities c.as_slice.result.now c.in-Ok.rows c.in_ok-build-in-Ok.field-0 (g.K.Keeper.tables c.args.keeper.now)
    (λ n. ap (is_listed n) c.as_slice.ensures.value ∙ c.in_ok-all.ensures n) c.in-Ok.ensures.rows (c.in_ok-build-in-Ok.ensures ∙ c.in_ok-rows-in-Ok.ensures.rows)
