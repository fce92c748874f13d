use Rattle.hib_keeper_sqlite.proofs.Changed.{next_row}
use Rattle.hib_keeper_sqlite.proofs.batch.seed_all.Goals as goal

pub loop-at-preserved : goal.loop-at-preserved
loop-at-preserved g c = next_row _ _ _ c.args.rows.now c.loop-at.at c.index-rows-at.result c.loop-at-test.true c.index-rows-at.is c.loop-at.invariant c.in_ok-seed_one.ensures.ok
