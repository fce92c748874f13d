use Rattle.std.proofs.Common.{is_some, sym, ap, ◌∙◌}
use Rattle.hib_rw_region.proofs.Queues.{look_front, look_back}
use Rattle.hib_rw_region.proofs.queue.look.Goals as goal

pub returns-in-Some : goal.returns-in-Some
returns-in-Some c =
    c.in-Some.ensures.value
    ∙ sym (look_front c.args.id c.args.front.now.entries c.args.back.now.entries c.len-distinct.ensures.unique (ap is_some (sym c.in-Some.ensures.value)))

pub returns-in-None : goal.returns-in-None
returns-in-None c =
    c.get-in-None.ensures.value
    ∙ sym (look_back c.args.id c.args.front.now.entries c.args.back.now.entries c.len-distinct.ensures.unique (ap is_some (sym c.in-None.ensures.value)))
