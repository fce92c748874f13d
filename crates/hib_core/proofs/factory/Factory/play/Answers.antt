use Rattle.std.proofs.Common.{subst, ◌∙◌, arith, length}
use Rattle.std.specs.List.{range_with_len}
use Rattle.hib_journal.specs.Kept.{past}
use Rattle.hib_journal.specs.Sessions.{Journal}
use Rattle.hib_journal.specs.Played.{play_orders, play_sessions}
use Rattle.hib_core.specs.Playing.{Play, played, Leads}
use Rattle.hib_engines.proofs.Outcomes.{map_ok, map_err, map_on}
use Rattle.hib_core.proofs.Evictions.{steps_named}
use Rattle.hib_core.proofs.Playing.{is_all_played, script_leads, goes_by, goes_then}
use Rattle.hib_core.proofs.factory.Factory.play.Goals as goal

pub returns-clause-played : goal.returns-clause-played
returns-clause-played g c = map_ok c.finish.result _ _ c.finish.ensures.played (λ r p e.
    is_all_played g.N.Name.script (past c.follow_schedule.new.self.journal) (past c.finish.new.self.journal)
    (subst (λ (h : Journal). Leads (play_orders g.N.Name.script g.N.Name.script.schedule) played h (past c.follow_schedule.new.self.journal)) e c.in_ok-follow_schedule.ensures.played) p)

pub returns-clause-leads : goal.returns-clause-leads
returns-clause-leads g c = map_on c.finish.result _ _ c.finish.ensures.played (λ p.
    script_leads g.N.Name.script (past c.args.self.now.journal) (past c.follow_schedule.new.self.journal) (past c.finish.new.self.journal) c.in_ok-follow_schedule.ensures.played p)

pub returns-clause-going : goal.returns-clause-going
returns-clause-going g c = map_on c.finish.result _ _ c.finish.ensures.ran.going (λ p. p ∙ c.in_ok-follow_schedule.ensures.going)

pub returns-clause-stands : goal.returns-clause-stands
returns-clause-stands g c = map_err c.finish.result _ _ c.finish.ensures.ran.stands (λ p.
    goes_then (past c.args.self.now.journal) (past c.follow_schedule.new.self.journal) (past c.finish.new.self.journal)
    (goes_by (play_orders g.N.Name.script g.N.Name.script.schedule) played (past c.args.self.now.journal) (past c.follow_schedule.new.self.journal) c.in_ok-follow_schedule.ensures.played) p)

pub returns-clause-asked : goal.returns-clause-asked
returns-clause-asked g c = map_err c.finish.result _ _ c.finish.ensures.ran.asked (λ p e. p (c.in_ok-follow_schedule.ensures.going ∙ e))

pub returns-in_err-follow_schedule-clause-outside : goal.returns-in_err-follow_schedule-clause-outside
returns-in_err-follow_schedule-clause-outside g c = c.in_err-follow_schedule.ensures.outside

pub returns-clause-outside : goal.returns-clause-outside
returns-clause-outside g c =
    let i = c.in_ok-follow_schedule.ensures.outside in
    let j = c.finish.ensures.inside in
    omega (arith, i, j)

pub returns-clause-named : goal.returns-clause-named
returns-clause-named g c =
    let sessions : Play = play_sessions g.N.Name.script (range_with_len 0 (length g.N.Name.script.sessions)) in
    λ n. steps_named sessions (past c.follow_schedule.new.self.journal) (past c.finish.new.self.journal) c.finish.result c.finish.ensures.played c.finish.ensures.ran.stands c.finish.ensures.inside
    (c.in_ok-follow_schedule.ensures.named n)
