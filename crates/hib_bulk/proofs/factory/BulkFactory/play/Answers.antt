use Rattle.std.proofs.Common.{[], subst}
use Rattle.hib_engines.proofs.Outcomes.{map_on}
use Rattle.hib_playing.specs.Playing.{Leads, played}
use Rattle.hib_bulk.specs.Kept.{past}
use Rattle.hib_bulk_law.specs.Plain.{Bulked}
use Rattle.hib_bulk.specs.Played.{play_script}
use Rattle.hib_bulk.proofs.Due.{all_of_it}
use Rattle.hib_bulk.proofs.factory.BulkFactory.play.Goals as goal

pub returns-clause-played : goal.returns-clause-played
returns-clause-played g c = map_on c.run_all-ran.result _ _ c.run_all-ran.ensures.leads (λ p e.
    all_of_it g.N.Name.script g.N.Name.lines g.N.Name.orders (past c.run_all-ran.new.self.journal)
    (subst (λ (h : Bulked). Leads (play_script g.N.Name.script g.N.Name.lines g.N.Name.orders) played h (past c.run_all-ran.new.self.journal)) e p))
