use Rattle.hib_sqlite_rows.proofs.Listed.{next_entry}
use Rattle.hib_sqlite_rows.proofs.reads.add_entries.Goals as goal

pub loop-row-preserved : goal.loop-row-preserved
loop-row-preserved c = λ t shows.
    next_entry c.args.entity t c.args.rows.now c.loop-row.row-index c.row-item.result c.in_ok-entry_of.field-0 c.args.list.now.items c.loop-row.list.items c.push.new.self.items
    shows (c.loop-row.invariant t shows) c.loop-row-test.true c.row-item.is c.in_ok-entry_of.ensures c.in_ok-push.ensures.items
