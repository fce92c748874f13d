use Rattle.hib_outside.proofs.Commits.{got_at}
use Rattle.hib_keeper_sqlite.proofs.Widened.{next_wide, next_there, one_there}
use Rattle.hib_keeper_sqlite.proofs.widening.widen_rows.Goals as goal

pub widen_one-requires-clause-there : goal.widen_one-requires-clause-there
widen_one-requires-clause-there g c =
    one_there c.args.rows.now c.loop-at.at c.index-rows-at.result _ (got_at c.args.rows.now c.loop-at.at c.index-rows-at.result c.loop-at-test.true c.index-rows-at.is) c.loop-at.invariant.there

pub loop-at-preserved : goal.loop-at-preserved
loop-at-preserved g c = record {
  told = next_wide c.args.columns.now _ _ _ c.args.rows.now c.loop-at.at c.index-rows-at.result c.loop-at-test.true c.index-rows-at.is c.loop-at.invariant.told c.in_ok-widen_one.ensures.ok;
  there = next_there c.args.columns.now c.index-rows-at.result c.args.rows.now _ _ c.in_ok-widen_one.ensures.ok c.loop-at.invariant.there;
}
