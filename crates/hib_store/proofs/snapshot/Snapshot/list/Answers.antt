use Rattle.std.proofs.Common.{refl, sym, ap, subst, ◌∙◌}
use Rattle.hib_base.specs.Tables.{after_changes}
use Rattle.hib_journal.specs.Query.{gives}
use Rattle.hib_store.specs.Stores.{IsSnapshotOf}
use Rattle.hib_store.proofs.Kept.{snapshot_lists}
use Rattle.hib_store.proofs.snapshot.Snapshot.list.Goals as goal

pub returns-clause-listed : goal.returns-clause-listed
returns-clause-listed c = λ told a.
    snapshot_lists c.args.query.now (record { rows = c.self.inside.index; entities = c.self.inside.entities }) told c.in_ok-gives.field-0 c.in_ok-gives.ensures.ordered
    (c.if-not-reads_below.ensures.only refl) (c.in_ok-gives.ensures.given ∙ ap (λ cs. gives c.args.query.now (after_changes cs c.self.inside.index)) c.new.ensures)
    (subst (IsSnapshotOf told) (sym c.self.view_is) a)
