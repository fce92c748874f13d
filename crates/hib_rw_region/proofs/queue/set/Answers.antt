use Rattle.std.proofs.Common.{is_some, sym, ap, ◌∙◌}
use Rattle.std.proofs.lemmas.Result.{on_ok_weaker}
use Rattle.hib_room_laws.specs.Queued.{queued}
use Rattle.hib_rw_region.proofs.Queues.{look_back, put_front, put_back}
use Rattle.hib_rw_region.proofs.queue.set.Goals as goal

pub returns-then-is_older-clause-ok : goal.returns-then-is_older-clause-ok
returns-then-is_older-clause-ok c =
    on_ok_weaker c.set.result
    (λ e. ap (λ x. queued x c.args.back.now.entries) e ∙ put_front c.args.id c.args.front.now.entries c.args.back.now.entries c.is_older.ensures.distinct c.args.slot (sym c.is_older.ensures.there ∙ c.if-is_older.true))
    c.set.ensures.ok

pub returns-else-is_older-clause-ok : goal.returns-else-is_older-clause-ok
returns-else-is_older-clause-ok c =
    on_ok_weaker c.set-else-is_older.result
    (λ e. ap (queued c.args.front.now.entries) e ∙ put_back c.args.id c.args.front.now.entries c.args.back.now.entries c.is_older.ensures.distinct c.args.slot (sym c.is_older.ensures.there ∙ c.if-is_older.false))
    c.set-else-is_older.ensures.ok

pub returns-else-is_older-clause-there : goal.returns-else-is_older-clause-there
returns-else-is_older-clause-there c = λ s.
    c.set-else-is_older.ensures.there (sym (ap is_some (look_back c.args.id c.args.front.now.entries c.args.back.now.entries c.is_older.ensures.distinct (sym c.is_older.ensures.there ∙ c.if-is_older.false))) ∙ s)
