use Rattle.std.proofs.Common.{◌++◌}
use Rattle.hib_dirty_check.specs.Changed.{insert_of}
use Rattle.hib_flush.specs.Planned.{inserts_in}
use Rattle.hib_flush.proofs.Loops.{one_more}
use Rattle.hib_flush.proofs.planning.add_inserts.Goals as goal

pub loop-i-preserved : goal.loop-i-preserved
loop-i-preserved c = rw c.in_ok-add.ensures (one_more (λ p. insert_of p.0 p.1) c.args.map.now.held c.loop-i.i (c.at-key.result.0, c.at-key.result.1.now)
    c.in_ok-change.change c.loop-i.changes (c.args.changes.now ++ inserts_in c.args.map.now.held) c.at-key.ensures c.in_ok-change.ensures c.loop-i.invariant)
