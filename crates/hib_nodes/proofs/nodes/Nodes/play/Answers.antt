use Rattle.std.proofs.Common.{subst}
use Rattle.hib_engines.proofs.Outcomes.{map_err, map_on}
use Rattle.hib_playing.specs.Playing.{Leads, played}
use Rattle.hib_nodes_law.specs.Types.{Noded}
use Rattle.hib_nodes.specs.Kept.{past}
use Rattle.hib_nodes.specs.Played.{play_script}
use Rattle.hib_nodes.proofs.Playing.{all_of_it}
use Rattle.hib_nodes.proofs.nodes.Nodes.play.Goals as goal

pub returns-clause-played : goal.returns-clause-played
returns-clause-played g c = map_on c.run_all-ran.result _ _ c.run_all-ran.ensures.leads (λ p e.
    all_of_it g.N.Name.script g.N.Name.orders (past c.run_all-ran.new.self.journal)
    (subst (λ (h : Noded). Leads (play_script g.N.Name.script g.N.Name.orders) played h (past c.run_all-ran.new.self.journal)) e p))

pub returns-clause-stands : goal.returns-clause-stands
returns-clause-stands g c = map_err c.run_all-ran.result _ _ c.run_all-ran.ensures.stopped (λ s. s.stands)

pub returns-clause-asked : goal.returns-clause-asked
returns-clause-asked g c = map_err c.run_all-ran.result _ _ c.run_all-ran.ensures.stopped (λ s. s.asked)

pub returns-clause-refused : goal.returns-clause-refused
returns-clause-refused g c = map_err c.run_all-ran.result _ _ c.run_all-ran.ensures.stopped (λ s. s.refused)
