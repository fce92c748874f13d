use Rattle.hib_engines.proofs.Outcomes.{map_err, map_on}
use Rattle.hib_playing.specs.Playing.{play_each, played}
use Rattle.hib_playing.proofs.Playing.{goes_by, goes_then, then_leads}
use Rattle.hib_bulk.specs.Kept.{past}
use Rattle.hib_bulk.specs.Played.{play_numbers, play_order}
use Rattle.hib_bulk.proofs.factory.BulkFactory.run_all.Goals as goal

pub returns-clause-leads : goal.returns-clause-leads
returns-clause-leads g c = map_on c.finish.result _ _ c.finish.ensures.played (λ p.
    then_leads (play_each (play_order g.N.Name.script g.N.Name.lines) g.N.Name.orders) (play_numbers g.N.Name.script g.N.Name.lines)
    (past c.args.self.now.journal) (past c.follow_orders.new.self.journal) (past c.finish.new.self.journal) c.in_ok-follow_orders.ensures.played p)

pub returns-clause-stands : goal.returns-clause-stands
returns-clause-stands g c = map_err c.finish.result _ _ c.finish.ensures.stands (λ p.
    goes_then (past c.args.self.now.journal) (past c.follow_orders.new.self.journal) (past c.finish.new.self.journal)
    (goes_by (play_each (play_order g.N.Name.script g.N.Name.lines) g.N.Name.orders) played (past c.args.self.now.journal) (past c.follow_orders.new.self.journal) c.in_ok-follow_orders.ensures.played) p)
