use Rattle.std.proofs.Common.{◌==◌, ℕ, List, subst}
use Rattle.std.specs.List.{list_any}
use Rattle.std.proofs.lemmas.List.{take_all}
use Rattle.hib_session.specs.Killed.{AreKilled}
use Rattle.hib_session.proofs.Killed.{killed_next}
use Rattle.hib_session.proofs.killing.kill_all.Goals as goal

pub loop-number-preserved : goal.loop-number-preserved
loop-number-preserved c = killed_next c.args.numbers.now c.loop-number.number-index c.number-item.result c.args.sessions.now.items c.loop-number.sessions.items c.kill_at.new.sessions.items
    c.loop-number-test.true c.number-item.is c.loop-number.invariant
    (subst (λ (n : ℕ). AreKilled (λ s. n == s) c.loop-number.sessions.items c.kill_at.new.sessions.items) c.number.view_is c.kill_at.ensures)

pub returns : goal.returns
returns c = subst (λ (ns : List ℕ). AreKilled (λ s. list_any (λ n. n == s) ns) c.args.sessions.now.items c.loop-number.sessions.items)
    (take_all c.loop-number.number-index c.args.numbers.now c.loop-number-test.false) c.loop-number.invariant
