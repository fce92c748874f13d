use Rattle.std.proofs.Common.{◌≡◌, ◌<◌, ℕ, List, length, sym, ap, subst, ◌∙◌}
use Rattle.std.specs.List.{All}
use Rattle.hib_journal.specs.Next.{tables_of}
use Rattle.hib_update_stamps.specs.Stamped.{Stamped}
use Rattle.hib_engines.proofs.QueryTables.{all_tables}
use Rattle.hib_engines.proofs.stamps.StampsEngine.check.Goals as goal

pub check-requires : goal.check-requires
check-requires c =
    let script = c.args.script.now in
    let same : length c.self.inside.stamps ≡ length script.mapping = ap (λ (v : Stamped). length v) c.self.view_is ∙ c.requires.tables in
    subst (λ (ts : List ℕ). All (λ t. t < length c.self.inside.stamps) ts) (sym (c.as_slice.ensures.value ∙ c.in_ok-tables.ensures))
    (subst (λ (n : ℕ). All (λ t. t < n) (tables_of script c.args.query)) (sym same) (all_tables script c.args.query))
