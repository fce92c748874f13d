use Rattle.hib_journal.specs.Kept.{past}
use Rattle.hib_live.proofs.Given.{given}
use Rattle.hib_live.proofs.steps.LiveCore.close.Goals as goal

pub returns-clause-given : goal.returns-clause-given
returns-clause-given g c =
    given c.hits_are_true.ensures.hits c.self.inside.script g.N.Name.from.tables (past c.self.inside.journal) c.self.invariant.declared c.self.invariant.run.legal
