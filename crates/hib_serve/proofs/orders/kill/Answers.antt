use Rattle.std.proofs.Common.{Option, ℕ, sym, ◌∙◌, subst}
use Rattle.hib_base.specs.declared.scripts.Order.{Order}
use Rattle.hib_journal.specs.Played.{play_order}
use Rattle.hib_serve.specs.Sessions.{HasKilled}
use Rattle.hib_serve.proofs.Grown.{led, same_list}
use Rattle.hib_serve.proofs.orders.kill.Goals as goal

pub returns-in-Ok-clause-killed : goal.returns-in-Ok-clause-killed
returns-in-Ok-clause-killed g c =
    subst (λ (o : Option ℕ). HasKilled o c.args.core.now c.kill.new.self) (sym c.in-Some.is ∙ c.number_of.ensures)
    (record {
      asked = c.kill.ensures.asked;
      obeyed = c.in-Ok.ensures.killed;
      grown = led (play_order c.args.core.now.script (Order.Kill c.in-Some.number)) c.args.core.now.journal c.kill.new.self.journal
          c.in-Ok.ensures.killed;
    })

pub returns-in-Err-clause-journal : goal.returns-in-Err-clause-journal
returns-in-Err-clause-journal g c = same_list c.args.core.now.journal c.kill.new.self.journal c.in-Err.ensures.same
