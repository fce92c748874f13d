use Rattle.hib_bulk.specs.Kept.{past}
use Rattle.hib_bulk.proofs.Due.{unknown}
use Rattle.hib_bulk.proofs.factory.BulkFactory.numbers.Goals as goal

pub returns-clause-unknown : goal.returns-clause-unknown
returns-clause-unknown g c = λ s l. unknown g.N.Name.script g.N.Name.lines s (past c.args.self.now.journal) l
