use Rattle.std.proofs.Common.{subst, sym, ap, option_copied, ◌∙◌}
use Rattle.hib_base.specs.Tables.{row_at, after_changes}
use Rattle.hib_query_eval.specs.Views.{AreLaid}
use Rattle.hib_query_eval.proofs.Views.{entry_same, row_left_there, row_kept_there}
use Rattle.hib_query_eval.proofs.view.View.part.Goals as goal
use Rattle.hib_query_eval.proofs.view.View.part.Goals.{in_default-via-in-Some+else-is_changed, in_default-via-in_default}

pub returns-in-Some-clause-row : goal.returns-in-Some-clause-row
returns-in-Some-clause-row c =
    ap (λ t. row_at t c.args.key.now) c.as_slice.ensures.rows
    ∙ row_left_there c.self.inside.rows.now c.self.inside.changes.now c.in-Some.laid.now
    (subst (AreLaid c.self.inside.changes.now) (ap option_copied c.in-Some.is) c.self.invariant.over) c.args.key.now (sym c.is_changed.ensures ∙ c.if-is_changed.true)
    ∙ ap (λ t. row_at t c.args.key.now) c.self.view_is

pub returns-in-Some-clause-entry : goal.returns-in-Some-clause-entry
returns-in-Some-clause-entry c = entry_same c.as_slice.result.now c.args.self.now c.args.key.now (returns-in-Some-clause-row c)

pub returns-in_default-clause-row : goal.returns-in_default-clause-row
returns-in_default-clause-row c =
    elim c.in_default.branch [
      | in_default-via-in-Some+else-is_changed w ↦
          row_kept_there c.self.inside.rows.now c.self.inside.changes.now w.in-Some.laid.now
          (subst (AreLaid c.self.inside.changes.now) (ap option_copied w.in-Some.is) c.self.invariant.over) c.args.key.now (sym w.is_changed.ensures ∙ w.if-is_changed.false)
      | in_default-via-in_default w ↦
          ap (λ cs. row_at (after_changes cs c.self.inside.rows.now) c.args.key.now)
          (sym (subst (AreLaid c.self.inside.changes.now) (ap option_copied w.in_default.is) c.self.invariant.over))
    ]
    ∙ ap (λ t. row_at t c.args.key.now) c.self.view_is

pub returns-in_default-clause-entry : goal.returns-in_default-clause-entry
returns-in_default-clause-entry c = entry_same c.self.inside.rows.now c.args.self.now c.args.key.now (returns-in_default-clause-row c)
