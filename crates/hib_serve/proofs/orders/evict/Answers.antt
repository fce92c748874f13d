use Rattle.std.proofs.Common.{Option, ap, ◌∙◌, subst}
use Rattle.hib_base.specs.declared.scripts.Order.{Order}
use Rattle.hib_journal.specs.Played.{play_order}
use Rattle.hib_journal.specs.Types.{Key, Script}
use Rattle.hib_serve_answers.specs.declared.refusals.Refusal.{Refusal}
use Rattle.hib_serve.specs.Sessions.{HasEvicted, IsWhyKept, key_in}
use Rattle.hib_serve.proofs.Grown.{led, same_list}
use Rattle.hib_serve.proofs.orders.evict.Goals as goal

pub returns-in-Ok-clause-evicted : goal.returns-in-Ok-clause-evicted
returns-in-Ok-clause-evicted g c =
    subst (λ (o : Option Key). HasEvicted o c.args.core.now c.evict.new.self)
    (c.in-Some.ensures ∙ ap (λ (s : Script). key_in s c.args.entity.now c.args.id) c.script.ensures)
    (record {
      asked = c.evict.ensures.asked;
      obeyed = c.in-Ok.ensures.evicted;
      grown = led (play_order c.args.core.now.script (Order.Evict c.in-Some.key)) c.args.core.now.journal c.evict.new.self.journal
          c.in-Ok.ensures.evicted;
    })

pub returns-in-Err-Unfit-clause-journal : goal.returns-in-Err-Unfit-clause-journal
returns-in-Err-Unfit-clause-journal g c = same_list c.args.core.now.journal c.evict.new.self.journal c.in-Err-Unfit.ensures.same

pub returns-in-Err : goal.returns-in-Err
returns-in-Err g c = record {
  evicted = tt;
  why = subst (λ (o : Option Key). IsWhyKept o c.args.core.now.script Refusal.Memory)
      (c.in-Some.ensures ∙ ap (λ (s : Script). key_in s c.args.entity.now c.args.id) c.script.ensures) tt;
  asked = c.evict.ensures.asked;
  journal = same_list c.args.core.now.journal c.evict.new.self.journal c.in-Err.ensures.same;
}
