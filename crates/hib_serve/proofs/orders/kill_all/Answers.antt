use Rattle.std.proofs.Common.{ℕ, subst}
use Rattle.hib_base.specs.declared.scripts.Order.{Order}
use Rattle.hib_core.specs.Playing.{Leads, played}
use Rattle.hib_journal.specs.Kept.{past}
use Rattle.hib_journal.specs.Played.{play_order}
use Rattle.hib_serve.proofs.Kills.{closed_more, kills_more, kills_same}
use Rattle.hib_serve.proofs.orders.kill_all.Goals as goal

pub returns-in_err-kill-clause-killed : goal.returns-in_err-kill-clause-killed
returns-in_err-kill-clause-killed g c = kills_same c.args.core.now c.loop-place.core c.kill.new.self c.loop-place.invariant.killed c.kill.ensures.asked c.in_err-kill.ensures.same

pub loop-place-preserved : goal.loop-place-preserved
loop-place-preserved g c =
    let killed : Leads (play_order c.loop-place.core.script (Order.Kill c.loop-place.place)) played (past c.loop-place.core.journal) (past c.kill.new.self.journal) =
    subst (λ (n : ℕ). Leads (play_order c.loop-place.core.script (Order.Kill n)) played (past c.loop-place.core.journal) (past c.kill.new.self.journal)) c.in-Ok.ensures.1 c.in_ok-kill.ensures.killed in
    record {
      killed = kills_more c.loop-place.place c.args.core.now c.loop-place.core c.kill.new.self c.loop-place.invariant.killed c.kill.ensures.asked killed;
      closed = closed_more c.loop-place.place c.loop-place.core.script (past c.loop-place.core.journal) (past c.kill.new.self.journal) killed c.loop-place.invariant.closed;
    }
