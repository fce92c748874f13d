use Rattle.hib_base.specs.declared.scripts.Order.{Order}
use Rattle.hib_journal.specs.Played.{play_order}
use Rattle.hib_serve.proofs.Grown.{led, same_list}
use Rattle.hib_serve.proofs.orders.restart.Goals as goal

pub returns-in-Ok-clause-restarted : goal.returns-in-Ok-clause-restarted
returns-in-Ok-clause-restarted g c = record {
  asked = c.restart.ensures.asked;
  obeyed = c.in-Ok.ensures.restarted;
  grown = led (play_order c.args.core.now.script Order.Restart) c.args.core.now.journal c.restart.new.self.journal c.in-Ok.ensures.restarted;
}

pub returns-in-Err-clause-journal : goal.returns-in-Err-clause-journal
returns-in-Err-clause-journal g c = same_list c.args.core.now.journal c.restart.new.self.journal c.in-Err.ensures.same
