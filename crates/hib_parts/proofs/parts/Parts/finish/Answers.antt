use Rattle.std.proofs.Common.{rules}
use Rattle.hib_parts.specs.Run.{part_lists}
use Rattle.hib_parts.proofs.Run.{goes_then}
use Rattle.hib_parts.proofs.parts.Parts.finish.Goals as goal

pub steps-preserved : goal.steps-preserved
steps-preserved g c = record {
  going = search rules;
  entities = search rules;
  number = search rules;
  run = goes_then (part_lists c.args.self.now)
      (part_lists c.steps.self)
      (part_lists c.step.new.self)
      c.args.worker.now c.steps.worker c.step.new.worker c.steps.invariant.run c.in_ok-step.ensures.run;
}

pub returns-in-Done-clause-run : goal.returns-in-Done-clause-run
returns-in-Done-clause-run g c = goes_then (part_lists c.args.self.now)
    (part_lists c.steps.self)
    (part_lists c.step.new.self)
    c.args.worker.now c.steps.worker c.step.new.worker c.steps.invariant.run c.in_ok-step.ensures.run
