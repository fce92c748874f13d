use Rattle.std.proofs.Common.{subst, ◌∙◌}
use Rattle.hib_engines.proofs.Outcomes.{err_all, map_err, map_ok, map_on}
use Rattle.hib_collections_law.specs.Types.{Gathered}
use Rattle.hib_playing.specs.Playing.{Leads, play_each, played}
use Rattle.hib_playing.proofs.Playing.{goes_by, goes_then, then_leads}
use Rattle.hib_collections.specs.Kept.{past}
use Rattle.hib_collections.specs.Played.{play_order, play_sessions}
use Rattle.hib_collections.proofs.Playing.{all_of_it}
use Rattle.hib_collections.proofs.gather.Gather.play.Goals as goal

pub returns-clause-played : goal.returns-clause-played
returns-clause-played g c = map_ok c.finish.result _ _ c.finish.ensures.played (λ r p e.
    all_of_it g.N.Name.script g.N.Name.defs (past c.finish.new.self.journal)
    (then_leads (play_each (play_order g.N.Name.script g.N.Name.defs) g.N.Name.script.schedule) (play_sessions g.N.Name.script g.N.Name.defs) _ (past c.follow_schedule.new.self.journal) (past c.finish.new.self.journal)
    (subst (λ (h : Gathered). Leads (play_each (play_order g.N.Name.script g.N.Name.defs) g.N.Name.script.schedule) played h (past c.follow_schedule.new.self.journal)) e c.in_ok-follow_schedule.ensures.played) p))

pub returns-clause-leads : goal.returns-clause-leads
returns-clause-leads g c = map_on c.finish.result _ _ c.finish.ensures.played (λ p.
    then_leads (play_each (play_order g.N.Name.script g.N.Name.defs) g.N.Name.script.schedule) (play_sessions g.N.Name.script g.N.Name.defs) (past c.args.self.now.journal) (past c.follow_schedule.new.self.journal) (past c.finish.new.self.journal) c.in_ok-follow_schedule.ensures.played p)

pub returns-clause-going : goal.returns-clause-going
returns-clause-going g c = map_on c.finish.result _ _ c.finish.ensures.going (λ p. p ∙ c.in_ok-follow_schedule.ensures.going)

pub returns-clause-stands : goal.returns-clause-stands
returns-clause-stands g c = map_err c.finish.result _ _ c.finish.ensures.stopped (λ p.
    goes_then (past c.args.self.now.journal) (past c.follow_schedule.new.self.journal) (past c.finish.new.self.journal)
    (goes_by (play_each (play_order g.N.Name.script g.N.Name.defs) g.N.Name.script.schedule) played (past c.args.self.now.journal) (past c.follow_schedule.new.self.journal) c.in_ok-follow_schedule.ensures.played) p.stands)

pub returns-clause-asked : goal.returns-clause-asked
returns-clause-asked g c = map_err c.finish.result _ _ c.finish.ensures.stopped (λ p e. p.asked (c.in_ok-follow_schedule.ensures.going ∙ e))

pub returns-clause-refused : goal.returns-clause-refused
returns-clause-refused g c = map_err c.finish.result _ _ c.finish.ensures.stopped (λ p. p.refused)

pub returns-in_err-follow_schedule-clause-stands : goal.returns-in_err-follow_schedule-clause-stands
returns-in_err-follow_schedule-clause-stands g c = err_all c.from_residual.result _ c.in_err-follow_schedule.ensures.stopped.stands

pub returns-in_err-follow_schedule-clause-asked : goal.returns-in_err-follow_schedule-clause-asked
returns-in_err-follow_schedule-clause-asked g c = err_all c.from_residual.result _ c.in_err-follow_schedule.ensures.stopped.asked

pub returns-in_err-follow_schedule-clause-refused : goal.returns-in_err-follow_schedule-clause-refused
returns-in_err-follow_schedule-clause-refused g c = err_all c.from_residual.result _ c.in_err-follow_schedule.ensures.stopped.refused
