use Rattle.std.proofs.Common.{◌≤◌, ℕ, ◌∙◌, drop, subst, arith}
use Rattle.hib_journal.specs.Kept.{past}
use Rattle.hib_journal.specs.Played.{play_orders}
use Rattle.hib_core.specs.Playing.{Play}
use Rattle.hib_engines.proofs.Outcomes.{err_all}
use Rattle.hib_core.proofs.Playing.{goes_by, goes_then, orders_more, orders_done}
use Rattle.hib_core.proofs.factory.Factory.follow_schedule.Goals as goal

pub loop-at-preserved : goal.loop-at-preserved
loop-at-preserved g c =
    let script = g.N.Name.script in
    let all : Play = play_orders script script.schedule in
    record {
      played = orders_more script c.loop-at.at c.order-order.result all (past c.args.self.now.journal) (past c.loop-at.self.journal) (past c.obey.new.self.journal)
          c.order-order.ensures.order c.loop-at.invariant.played c.in_ok-obey.ensures.played;
      going = c.in_ok-obey.ensures.ran.going ∙ c.loop-at.invariant.going;
      outside = let i = c.in_ok-obey.ensures.outside in let j = c.loop-at.invariant.outside in omega (arith, i, j);
      named = λ n. c.in_ok-obey.ensures.named (c.loop-at.invariant.named n);
    }

pub returns-clause-played : goal.returns-clause-played
returns-clause-played g c =
    let script = g.N.Name.script in
    let all : Play = play_orders script script.schedule in
    orders_done script c.loop-at.at all (past c.args.self.now.journal) (past c.loop-at.self.journal)
    (subst (λ (m : ℕ). m ≤ c.loop-at.at) c.orders-at-end.ensures.count c.loop-at-test.false) c.loop-at.invariant.played

pub returns-in_err-obey-clause-stands : goal.returns-in_err-obey-clause-stands
returns-in_err-obey-clause-stands g c =
    let script = g.N.Name.script in
    let all : Play = play_orders script script.schedule in
    let left : Play = play_orders script (drop c.loop-at.at script.schedule) in
    err_all c.from_residual.result _ (goes_then (past c.args.self.now.journal) (past c.loop-at.self.journal) (past c.obey.new.self.journal)
    (goes_by all left (past c.args.self.now.journal) (past c.loop-at.self.journal) c.loop-at.invariant.played) c.in_err-obey.ensures.ran.stands)

pub returns-in_err-obey-clause-asked : goal.returns-in_err-obey-clause-asked
returns-in_err-obey-clause-asked g c = err_all c.from_residual.result _ (λ p. c.in_err-obey.ensures.ran.asked (c.loop-at.invariant.going ∙ p))

pub returns-in_err-obey-clause-outside : goal.returns-in_err-obey-clause-outside
returns-in_err-obey-clause-outside g c =
    let i = c.in_err-obey.ensures.outside in
    let j = c.loop-at.invariant.outside in
    omega (arith, i, j, c.loop-at-test.true, c.orders-at-end.ensures.count)

pub returns-clause-outside : goal.returns-clause-outside
returns-clause-outside g c =
    let j = c.loop-at.invariant.outside in
    omega (arith, j, c.loop-at.auto.at-end, c.orders-at-end.ensures.count)

pub returns-in_err-obey-clause-named : goal.returns-in_err-obey-clause-named
returns-in_err-obey-clause-named g c = λ n. c.in_err-obey.ensures.named (c.loop-at.invariant.named n)
