use Rattle.std.proofs.Common.{option_copied}
use Rattle.std.proofs.lemmas.Result.{on_ok_weaker}
use Rattle.hib_query_eval.proofs.Indexed.{changed}
use Rattle.hib_query_eval.proofs.columns.lay_over.Goals as goal

pub returns : goal.returns
returns c = on_ok_weaker c.add_cell.result
    (λ added t q x. changed c.args.one.now.entity c.args.one.now.column c.args.one.now.places.keys c.drop_cell.new.places.keys c.add_cell.new.places.keys c.args.change.now t
    c.key-key.result (option_copied c.args.found) (option_copied c.row_left-left.result) c.key-key.ensures q c.row_left-left.ensures x (λ h. c.add_cell.ensures.fit)
    c.in_ok-drop_cell.ensures added)
    c.add_cell.ensures.added
