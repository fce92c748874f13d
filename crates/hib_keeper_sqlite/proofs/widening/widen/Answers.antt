use Rattle.std.proofs.Common.{List, ap, sym, ◌∙◌}
use Rattle.hib_base.specs.declared.scripts.ColumnDef.{ColumnDef}
use Rattle.hib_base.specs.declared.scripts.EntityDef.{EntityDef}
use Rattle.hib_outside.proofs.Commits.{got_at}
use Rattle.hib_sqlite_rows.specs.Told.{changed}
use Rattle.hib_keeper_sqlite.specs.Widening.{widened_one}
use Rattle.hib_keeper_sqlite.proofs.Widened.{next_entity, first_entity, all_entities}
use Rattle.hib_keeper_sqlite.proofs.widening.widen.Goals as goal

pub loop-at-init : goal.loop-at-init
loop-at-init g c = first_entity c.args.mapping.now _

pub loop-at-preserved : goal.loop-at-preserved
loop-at-preserved g c =
    next_entity c.loop-at.at c.args.mapping.now c.index-mapping-at.result _ _ _ (got_at c.args.mapping.now c.loop-at.at c.index-mapping-at.result c.loop-at-test.true c.index-mapping-at.is) c.loop-at.invariant
    (c.in_ok-widen_entity.ensures.ok ∙ ap (λ (ds : List ColumnDef). changed (widened_one c.loop-at.at ds) (g.T.RowTable.told c.loop-at.table)) (c.as_slice.ensures ∙ ap (λ (d : EntityDef). d.columns) (sym c.index-mapping-at.is)))

pub returns-clause-ok : goal.returns-clause-ok
returns-clause-ok g c = all_entities c.loop-at.at c.args.mapping.now _ _ c.loop-at-test.false c.loop-at.invariant
