use Rattle.std.specs.List.{list_any}
use Rattle.std.proofs.Common.{◌≡◌, Bool, true, sym, ◌∙◌, subst}
use Rattle.hib_base.specs.Tables.{key_of}
use Rattle.hib_journal.specs.Types.{Change}
use Rattle.hib_order_judge.proofs.Kept.{any_at}
use Rattle.hib_order_judge.specs.Dossiers.{changes_at, is_lost_row}
use Rattle.hib_order_judge.specs.Footings.{rest_at}
use Rattle.hib_order_judge.proofs.dossier.Dossier.has_lost_row.Goals as goal

pub returns-then-is_lost_row : goal.returns-then-is_lost_row
returns-then-is_lost_row c =
    let test : Change → Bool = λ x. is_lost_row c.args.rows.now (key_of x) (rest_at c.args.entries.now c.args.self.now.rests.entries (key_of x)) in
    let so : test c.change-item.result.now ≡ true =
    subst (λ k. is_lost_row c.args.rows.now k (rest_at c.args.entries.now c.args.self.now.rests.entries k) ≡ true) c.key.ensures
    (sym c.is_lost_row.ensures ∙ c.if-is_lost_row.true) in
    sym (subst (λ xs. list_any test (changes_at xs) ≡ true) c.as_slice-change-items.ensures.value
    (any_at test c.as_slice-change-items.result.now c.loop-change.change-index c.change-item.result c.loop-change-test.true c.change-item.is so))
