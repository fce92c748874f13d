use Rattle.std.proofs.Common.{◌+◌, ◌∙◌, map, take, drop, slice_get, sym, ap}
use Rattle.std.specs.Prelude.{pos, unwrap_or, false}
use Rattle.std.proofs.lemmas.Result.{IfOk-weaker}
use Rattle.hib_journal.specs.Types.{Cell}
use Rattle.hib_journal.specs.Query.{selected, sorted}
use Rattle.hib_base.specs.Tables.{Tables}
use Rattle.hib_query_eval.proofs.Walks.{cut_rows}
use Rattle.hib_query_eval.proofs.Enough.{cut_first}
use Rattle.hib_query_eval.proofs.listing.selected.Goals as goal

pub returns-in_ok-placed-in-Ids : goal.returns-in_ok-placed-in-Ids
returns-in_ok-placed-in-Ids c =
    let found : Tables = map (λ r. r.now) c.args.met.items in
    let placed : Tables = sorted c.args.query.now.order found in
    IfOk-weaker c.identifiers.result _ _
    (λ l e. e
    ∙ cut_rows (λ r. r.now) (λ a. Cell.Int (pos a.0.id)) c.cut.result.now c.in_ok-placed-in-Ids.placed.items (take (c.args.query.now.offset + c.args.query.now.limit) placed)
    c.args.query.now.offset c.args.query.now.limit (c.cut.ensures ∙ ap (λ xs. take c.args.query.now.limit (drop c.args.query.now.offset xs)) c.as_slice.ensures.value)
    c.in_ok-placed-in-Ids.ensures
    ∙ ap (map (λ a. Cell.Int (pos a.0.id))) (cut_first c.args.query.now.offset c.args.query.now.limit placed)
    ∙ sym (ap (selected c.args.query.now found) c.in-Ids.is))
    c.identifiers.ensures

pub returns-in_ok-placed-in-Column : goal.returns-in_ok-placed-in-Column
returns-in_ok-placed-in-Column c =
    let found : Tables = map (λ r. r.now) c.args.met.items in
    let placed : Tables = sorted c.args.query.now.order found in
    IfOk-weaker c.cells_of.result _ _
    (λ l e. e
    ∙ cut_rows (λ r. r.now) (λ a. unwrap_or (slice_get a.1.cells c.in-Column.column) (Cell.Bool false)) c.cut-in-Column.result.now c.in_ok-placed-in-Column.placed.items
    (take (c.args.query.now.offset + c.args.query.now.limit) placed) c.args.query.now.offset c.args.query.now.limit
    (c.cut-in-Column.ensures ∙ ap (λ xs. take c.args.query.now.limit (drop c.args.query.now.offset xs)) c.as_slice-in-Column.ensures.value) c.in_ok-placed-in-Column.ensures
    ∙ ap (map (λ a. unwrap_or (slice_get a.1.cells c.in-Column.column) (Cell.Bool false))) (cut_first c.args.query.now.offset c.args.query.now.limit placed)
    ∙ sym (ap (selected c.args.query.now found) c.in-Column.is))
    c.cells_of.ensures
