use Rattle.hib_query_eval.proofs.Indexed.{one_row}
use Rattle.hib_query_eval.proofs.columns.places_of.Goals as goal

pub loop-row-preserved : goal.loop-row-preserved
loop-row-preserved c =
    one_row c.args.entity c.args.column c.loop-row.places.keys c.add_cell.new.places.keys c.args.rows.now c.loop-row.row-index c.row-item.result c.requires c.loop-row-test.true c.row-item.is
    c.loop-row.invariant c.add_cell.ensures.fit c.in_ok-add_cell.ensures.added
