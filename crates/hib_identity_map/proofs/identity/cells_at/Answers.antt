use Rattle.std.proofs.Common.{sym, ap, ◌∙◌}
use Rattle.std.proofs.lemmas.Result.{on_ok_weaker, on_err_weaker}
use Rattle.indexmap.specs.IndexMap.{set_value_at}
use Rattle.hib_identity_map.specs.Identity.{with_sets}
use Rattle.hib_identity_map.proofs.Entries.{changed, unchanged, kept_same}
use Rattle.hib_identity_map.proofs.identity.cells_at.Goals as goal

pub returns-in_default-clause-ok : goal.returns-in_default-clause-ok
returns-in_default-clause-ok c = unchanged c.args.key (with_sets c.args.sets) c.args.entries.now.entries c.in_default.ensures.found

pub returns-clause-ok : goal.returns-clause-ok
returns-clause-ok c =
    on_ok_weaker c.set_cells.result
    (λ e. ap (set_value_at c.args.entries.now.entries c.in-Some.index) e
    ∙ changed c.args.key c.in-Some.index (with_sets c.args.sets) c.args.entries.now.entries c.index_mut-held.result.now (sym c.in-Some.ensures.index) c.index_mut-held.ensures.value)
    c.set_cells.ensures.ok

pub returns-clause-err : goal.returns-clause-err
returns-clause-err c =
    on_err_weaker c.set_cells.result
    (λ e. ap (set_value_at c.args.entries.now.entries c.in-Some.index) e
    ∙ changed c.args.key c.in-Some.index (λ h. h) c.args.entries.now.entries c.index_mut-held.result.now (sym c.in-Some.ensures.index) c.index_mut-held.ensures.value
    ∙ kept_same c.args.key c.args.entries.now.entries)
    c.set_cells.ensures.err
