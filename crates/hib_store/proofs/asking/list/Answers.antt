use Rattle.std.proofs.Common.{ap, ◌∙◌}
use Rattle.hib_outside.specs.Keeps.{is_listed}
use Rattle.hib_query_eval.proofs.Laid.{listed_told}
use Rattle.hib_store.proofs.asking.list.Goals as goal

pub returns-in-Ok-clause-rows : goal.returns-in-Ok-clause-rows
returns-in-Ok-clause-rows g c =
    listed_told c.as_slice.result.now c.args.query.now (g.K.Keeper.tables c.args.keeper.now) c.in-Ok.rows
    (λ n. ap (is_listed n) c.as_slice.ensures.value ∙ c.in_ok-tables.ensures n) c.in-Ok.ensures.rows
