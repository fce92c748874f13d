use Rattle.std.proofs.lemmas.Result.{on_ok_weaker}
use Rattle.hib_order_judge.proofs.Kept.{rested}
use Rattle.hib_order_judge.proofs.footings.note_rest.Goals as goal

pub returns-in-Write : goal.returns-in-Write
returns-in-Write c =
    on_ok_weaker c.write_first.result
    (λ g es k.
    rested es k c.key-key.result c.in-Write.change c.args.act.now c.args.footings.now.entries c.args.rests.now.entries c.write_first.new.rests.entries
    c.row_at-row.result c.in-Write.is c.key-key.ensures c.row_at-row.ensures (g k))
    c.write_first.ensures
