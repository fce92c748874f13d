use Rattle.std.proofs.Common.{◌∙◌}
use Rattle.hib_engines.proofs.Outcomes.{err_all, map_err, map_on}
use Rattle.hib_playing.specs.Playing.{play_each, play_then, played}
use Rattle.hib_playing.proofs.Playing.{goes_by, then_leads}
use Rattle.hib_nodes.specs.Kept.{past}
use Rattle.hib_nodes.specs.Played.{play_order, play_queue, play_sessions}
use Rattle.hib_nodes.proofs.Playing.{stopped_after}
use Rattle.hib_nodes.proofs.nodes.Nodes.run_all.Goals as goal

pub returns-clause-leads : goal.returns-clause-leads
returns-clause-leads g c = map_on c.deliver_rest.result _ _ c.deliver_rest.ensures.played (λ p.
    let script = g.N.Name.script in
    let old = past c.args.self.now.journal in
    let one = past c.follow_orders.new.self.journal in
    let two = past c.finish.new.self.journal in
    let new = past c.deliver_rest.new.self.journal in
    let rest = play_then (play_queue script 1) (play_queue script 2) in
    then_leads (play_each (play_order script) g.N.Name.orders) (play_then (play_sessions script) rest) old one new c.in_ok-follow_orders.ensures.played
    (then_leads (play_sessions script) rest one two new c.in_ok-finish.ensures.played p))

pub returns-clause-over : goal.returns-clause-over
returns-clause-over g c = map_on c.deliver_rest.result _ _ c.deliver_rest.ensures.stay (λ f s l. f s ∙ c.in_ok-finish.ensures.over s l)

pub returns-clause-going : goal.returns-clause-going
returns-clause-going g c = map_on c.deliver_rest.result _ _ c.deliver_rest.ensures.going (λ p. p ∙ (c.in_ok-finish.ensures.going ∙ c.in_ok-follow_orders.ensures.going))

pub returns-clause-stopped : goal.returns-clause-stopped
returns-clause-stopped g c = map_err c.deliver_rest.result _ _ c.deliver_rest.ensures.stopped (λ p.
    let script = g.N.Name.script in
    let from = g.N.Name.from in
    let old = c.args.self.now in
    let one = c.follow_orders.new.self in
    let two = c.finish.new.self in
    stopped_after from old one c.deliver_rest.new.self (goes_by (play_each (play_order script) g.N.Name.orders) played (past old.journal) (past one.journal) c.in_ok-follow_orders.ensures.played) c.in_ok-follow_orders.ensures.going
    (stopped_after from one two c.deliver_rest.new.self (goes_by (play_sessions script) played (past one.journal) (past two.journal) c.in_ok-finish.ensures.played) c.in_ok-finish.ensures.going p))

pub returns-in_err-finish-clause-stopped : goal.returns-in_err-finish-clause-stopped
returns-in_err-finish-clause-stopped g c =
    let old = c.args.self.now in
    let one = c.follow_orders.new.self in
    err_all c.from_residual-in_err-finish.result _ (stopped_after g.N.Name.from old one c.finish.new.self
    (goes_by (play_each (play_order g.N.Name.script) g.N.Name.orders) played (past old.journal) (past one.journal) c.in_ok-follow_orders.ensures.played) c.in_ok-follow_orders.ensures.going c.in_err-finish.ensures.stopped)
