use Rattle.hib_keeper_sqlite.proofs.Changed.{next_change, next_verdict, all_changes}
use Rattle.hib_keeper_sqlite.proofs.batch.apply_all.Goals as goal

pub loop-at-preserved : goal.loop-at-preserved
loop-at-preserved g c = record {
  told = next_change _ _ _ c.args.batch.now c.loop-at.at c.index-batch-at.result c.loop-at-test.true c.index-batch-at.is c.loop-at.invariant.told (c.in_ok-answer.ensures.made c.in-None.is);
  verdict =
      next_verdict _ _ c.args.batch.now c.loop-at.at c.index-batch-at.result c.loop-at-test.true c.index-batch-at.is c.loop-at.invariant.told (rw c.in-None.is at c.in_ok-answer.ensures.refused) c.loop-at.invariant.verdict;
}

pub returns-clause-made : goal.returns-clause-made
returns-clause-made g c = λ _. all_changes _ _ c.args.batch.now c.loop-at.at c.loop-at-test.false c.loop-at.invariant.told
