use Rattle.std.proofs.Common.{◌≤◌, ℕ, drop, subst, ◌∙◌}
use Rattle.hib_engines.proofs.Outcomes.{err_all}
use Rattle.hib_playing.specs.Playing.{play_each}
use Rattle.hib_playing.proofs.Playing.{each_done, each_more, goes_by}
use Rattle.hib_nodes.specs.Kept.{past}
use Rattle.hib_nodes.specs.Played.{play_order}
use Rattle.hib_nodes.proofs.Playing.{stopped_after}
use Rattle.hib_nodes.proofs.nodes.Nodes.follow_orders.Goals as goal

pub loop-at-preserved : goal.loop-at-preserved
loop-at-preserved g c =
    let f = play_order g.N.Name.script in
    record {
      played = each_more f g.N.Name.orders c.loop-at.at c.order-order.result (play_each f g.N.Name.orders) (past c.args.self.now.journal) (past c.loop-at.self.journal) (past c.obey.new.self.journal)
          c.order-order.ensures c.loop-at.invariant.played c.in_ok-obey.ensures.played;
      going = c.in_ok-obey.ensures.going ∙ c.loop-at.invariant.going;
    }

pub returns-clause-played : goal.returns-clause-played
returns-clause-played g c =
    let f = play_order g.N.Name.script in
    each_done f g.N.Name.orders c.loop-at.at (play_each f g.N.Name.orders) (past c.args.self.now.journal) (past c.loop-at.self.journal)
    (subst (λ (m : ℕ). m ≤ c.loop-at.at) c.orders-at-end.ensures.count c.loop-at-test.false) c.loop-at.invariant.played

pub returns-in_err-obey-clause-stopped : goal.returns-in_err-obey-clause-stopped
returns-in_err-obey-clause-stopped g c =
    let f = play_order g.N.Name.script in
    let old = c.args.self.now in
    let mid = c.loop-at.self in
    err_all c.from_residual.result _ (stopped_after g.N.Name.from old mid c.obey.new.self
    (goes_by (play_each f g.N.Name.orders) (play_each f (drop c.loop-at.at g.N.Name.orders)) (past old.journal) (past mid.journal) c.loop-at.invariant.played) c.loop-at.invariant.going c.in_err-obey.ensures.stopped)
