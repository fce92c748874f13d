use Rattle.std.proofs.Common.{◌≡◌, ◌∙◌, [], ◌∷◌, sym, subst, true, IfSome}
use Rattle.hib_base.specs.Tables.{Tables}
use Rattle.hib_outside.specs.Keeps.{rows_of}
use Rattle.hib_keeper_sqlite.specs.Widening.{are_there}
use Rattle.hib_keeper_sqlite.proofs.Widened.{on_ok, none_changed, listed_there, entity_changed}
use Rattle.hib_keeper_sqlite.proofs.widening.widen_entity.Goals as goal

pub returns-then-not-has_defaults-clause-ok : goal.returns-then-not-has_defaults-clause-ok
returns-then-not-has_defaults-clause-ok g c = none_changed c.args.entity c.args.columns.now _ (sym c.has_defaults.ensures ∙ c.if-not-has_defaults.true)

pub widen_rows-requires-clause-there : goal.widen_rows-requires-clause-there
widen_rows-requires-clause-there g c =
    subst (λ (rows : Tables). IfSome (g.T.RowTable.told c.list.new.table) (λ t. are_there rows t.now ≡ true)) (sym c.as_slice.ensures)
    (listed_there (c.args.entity ∷ []) _ _ c.in_ok-rows.rows c.in_ok-rows.ensures.same c.in_ok-rows.ensures.rows)

pub returns-clause-ok : goal.returns-clause-ok
returns-clause-ok g c =
    on_ok c.widen_rows.result
    (λ made.
    entity_changed c.args.entity c.args.columns.now (g.T.RowTable.told c.args.table.now) (g.T.RowTable.told c.list.new.table) (g.T.RowTable.told c.widen_rows.new.table) c.as_slice.result.now c.in_ok-rows.ensures.same
    (subst (λ (rows : Tables). IfSome (g.T.RowTable.told c.args.table.now) (λ t. rows ≡ rows_of (c.args.entity ∷ []) t.now)) (sym c.as_slice.ensures) c.in_ok-rows.ensures.rows)
    (g.met.T.RowTable.ordered c.args.table.now) made)
    c.widen_rows.ensures.ok
