use Rattle.std.proofs.Common.{length, sym, ◌∙◌, arith}
use Rattle.hib_query_eval.proofs.Walks.{text_ends, least}
use Rattle.hib_query_eval.proofs.cells.is_below_text.Goals as goal

pub returns : goal.returns
returns c =
    sym (c.loop-at.invariant ∙ text_ends c.args.a.now c.args.b.now c.loop-at.at (omega arith) (omega arith)
    (least (length c.args.a.now) (length c.args.b.now) c.loop-at.at (omega arith)))
