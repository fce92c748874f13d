use Rattle.std.proofs.Common.{ap, sym, ◌∙◌, slice_get}
use Rattle.hib_query_eval.proofs.Indexed.{of_all}
use Rattle.hib_query_eval.proofs.Indexes.{column_more}
use Rattle.hib_query_eval.proofs.columns.add_column.Goals as goal

pub returns : goal.returns
returns c = λ f n x h.
    column_more c.args.columns.now.items (record { entity = c.args.entity; column = c.args.column; places = c.in_ok-places.places }) c.args.rows.now f
    (of_all c.args.entity c.args.column c.in_ok-places.places.keys c.args.rows.now c.of_entity-own.result.now c.of_entity-own.ensures.has_all c.in_ok-places.ensures)
    n x (ap (λ cs. slice_get cs n) (sym c.in_ok-push.ensures.items) ∙ h)
