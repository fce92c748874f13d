use Rattle.std.proofs.Common.{◌≤◌, ℕ, ◌∙◌, drop, subst}
use Rattle.hib_engines.proofs.Outcomes.{err_all}
use Rattle.hib_playing.specs.Playing.{play_each}
use Rattle.hib_playing.proofs.Playing.{each_done, each_more, goes_by}
use Rattle.hib_collections.specs.Kept.{past}
use Rattle.hib_collections.specs.Played.{play_order}
use Rattle.hib_collections.proofs.Playing.{stopped_after}
use Rattle.hib_collections.proofs.gather.Gather.follow_schedule.Goals as goal

pub loop-at-preserved : goal.loop-at-preserved
loop-at-preserved g c =
    let script = g.N.Name.script in
    let f = play_order script g.N.Name.defs in
    record {
      played = each_more f script.schedule c.loop-at.at c.order-order.result (play_each f script.schedule) (past c.args.self.now.journal) (past c.loop-at.self.journal) (past c.obey.new.self.journal)
          c.order-order.ensures c.loop-at.invariant.played c.in_ok-obey.ensures.played;
      going = c.in_ok-obey.ensures.going ∙ c.loop-at.invariant.going;
    }

pub returns-clause-played : goal.returns-clause-played
returns-clause-played g c =
    let script = g.N.Name.script in
    let f = play_order script g.N.Name.defs in
    each_done f script.schedule c.loop-at.at (play_each f script.schedule) (past c.args.self.now.journal) (past c.loop-at.self.journal)
    (subst (λ (m : ℕ). m ≤ c.loop-at.at) c.orders-at-end.ensures.count c.loop-at-test.false) c.loop-at.invariant.played

pub returns-in_err-obey-clause-stopped : goal.returns-in_err-obey-clause-stopped
returns-in_err-obey-clause-stopped g c =
    let script = g.N.Name.script in
    let f = play_order script g.N.Name.defs in
    let left = play_each f (drop c.loop-at.at script.schedule) in
    err_all c.from_residual.result _ (stopped_after script g.N.Name.from c.args.self.now c.loop-at.self c.obey.new.self
    (goes_by (play_each f script.schedule) left (past c.args.self.now.journal) (past c.loop-at.self.journal) c.loop-at.invariant.played) c.loop-at.invariant.going c.in_err-obey.ensures.stopped)
