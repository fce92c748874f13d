use Rattle.hib_bulk.specs.Kept.{past}
use Rattle.hib_bulk.proofs.Due.{step_goes}
use Rattle.hib_bulk.proofs.factory.BulkFactory.step.Goals as goal

pub returns-clause-stands : goal.returns-clause-stands
returns-clause-stands g c =
    step_goes g.N.Name.script g.N.Name.lines c.args.number c.turn-stepped.result (past c.args.self.now.journal) (past c.turn-stepped.new.self.journal) c.turn-stepped.ensures.did c.turn-stepped.ensures.same
