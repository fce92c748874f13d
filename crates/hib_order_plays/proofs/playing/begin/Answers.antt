use Rattle.hib_journal.specs.Kept.{past}
use Rattle.hib_order_law.specs.declared.step.Step.{Step}
use Rattle.hib_order_plays.proofs.Due.{step_more}
use Rattle.hib_order_plays.proofs.playing.begin.Goals as goal

pub loop-step-preserved : goal.loop-step-preserved
loop-step-preserved g c = record {
  steps = λ a. c.in_ok-make.ensures.steps (c.loop-step.invariant.steps a);
  made = λ start p q.
      step_more g.N.Name.script start c.args.steps.now c.loop-step.step-index (Step.Own 0) (past c.loop-step.factory.journal) (past c.make.new.factory.journal)
      q c.loop-step-test.true c.in_ok-make.ensures.goes (c.in_ok-make.ensures.made start) (c.loop-step.invariant.made start p q);
}
