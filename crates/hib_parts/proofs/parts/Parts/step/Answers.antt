use Rattle.std.proofs.Common.{refl}
use Rattle.hib_parts.specs.Run.{part_lists}
use Rattle.hib_parts.proofs.Run.{due_on, goes_on}
use Rattle.hib_parts.proofs.Ready.{goes_on_ready, stays_ready}
use Rattle.hib_parts.proofs.parts.Parts.step.Goals as goal

pub returns-clause-run : goal.returns-clause-run
returns-clause-run g c = goes_on_ready (part_lists c.args.self.now) c.args.worker.now c.ready.new.self c.ready.ensures.kept (part_lists c.step_on.new.self) c.step_on.new.worker
    (goes_on g.N.Name.script c.part_of-part.result
    (part_lists c.args.self.now)
    (part_lists c.step_on.new.self)
    c.ready.new.self c.step_on.new.worker (λ s. refl) (due_on g.N.Name.script c.ready.new.self c.in_ok-act.field-0 c.in-Some.act c.number.result c.part_of-part.result c.in_ok-act.ensures.act c.in-Some.is c.number.ensures c.part_of-part.ensures) c.step_on.ensures.number c.legal.ensures.legal c.legal.ensures.by c.in_ok-step_on.ensures.entered)

pub returns-in_default-clause-run : goal.returns-in_default-clause-run
returns-in_default-clause-run g c = stays_ready (part_lists c.args.self.now) c.args.worker.now c.ready.new.self c.ready.ensures.kept
