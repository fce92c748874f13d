use Rattle.hib_nodes.specs.Kept.{past}
use Rattle.hib_nodes.proofs.Playing.{none_unknown}
use Rattle.hib_nodes.proofs.nodes.Nodes.sessions.Goals as goal

pub returns-clause-unknown : goal.returns-clause-unknown
returns-clause-unknown g c = λ s l. none_unknown g.N.Name.script s (past c.args.self.now.journal) l
