use Rattle.std.proofs.Common.{◌<◌, None, is_some, sym, ap, ◌∙◌, subst}
use Rattle.hib_journal.specs.Regions as Regions
use Rattle.hib_soft_lock.specs.Steps.{locked, holders_in}
use Rattle.hib_room_laws.specs.Queued.{queued}
use Rattle.hib_rw_region.specs.Region.{shown_in}
use Rattle.hib_rw_region.proofs.Queues.{look_front, look_back, changed_front, changed_back}
use Rattle.hib_rw_region.proofs.queue.lock.Goals as goal

pub lock-requires-clause-few : goal.lock-requires-clause-few
lock-requires-clause-few c = subst (λ o. holders_in (shown_in o) < c.args.now) (look_front c.args.id c.args.front.now.entries c.args.back.now.entries c.is_older.ensures.distinct (sym c.is_older.ensures.there ∙ c.if-is_older.true)) c.requires.few

pub lock-requires-else-is_older-clause-few : goal.lock-requires-else-is_older-clause-few
lock-requires-else-is_older-clause-few c = subst (λ o. holders_in (shown_in o) < c.args.now) (look_back c.args.id c.args.front.now.entries c.args.back.now.entries c.is_older.ensures.distinct (sym c.is_older.ensures.there ∙ c.if-is_older.false)) c.requires.few

pub returns-then-is_older-clause-there : goal.returns-then-is_older-clause-there
returns-then-is_older-clause-there c = c.lock.ensures.there ∙ ap is_some (sym (look_front c.args.id c.args.front.now.entries c.args.back.now.entries c.is_older.ensures.distinct (sym c.is_older.ensures.there ∙ c.if-is_older.true)))

pub returns-then-is_older-clause-id : goal.returns-then-is_older-clause-id
returns-then-is_older-clause-id c = λ n e.
    c.lock.ensures.id n e ∙ ap (λ o. (Regions.lock c.args.timeout (shown_in o) None c.args.now).id) (sym (look_front c.args.id c.args.front.now.entries c.args.back.now.entries c.is_older.ensures.distinct (sym c.is_older.ensures.there ∙ c.if-is_older.true)))

pub returns-then-is_older-clause-slots : goal.returns-then-is_older-clause-slots
returns-then-is_older-clause-slots c =
    ap (λ x. queued x c.args.back.now.entries) c.lock.ensures.slots ∙ changed_front c.args.id c.args.front.now.entries c.args.back.now.entries c.is_older.ensures.distinct (locked c.args.timeout c.args.now) (sym c.is_older.ensures.there ∙ c.if-is_older.true)

pub returns-else-is_older-clause-there : goal.returns-else-is_older-clause-there
returns-else-is_older-clause-there c = c.lock-else-is_older.ensures.there ∙ ap is_some (sym (look_back c.args.id c.args.front.now.entries c.args.back.now.entries c.is_older.ensures.distinct (sym c.is_older.ensures.there ∙ c.if-is_older.false)))

pub returns-else-is_older-clause-id : goal.returns-else-is_older-clause-id
returns-else-is_older-clause-id c = λ n e.
    c.lock-else-is_older.ensures.id n e ∙ ap (λ o. (Regions.lock c.args.timeout (shown_in o) None c.args.now).id) (sym (look_back c.args.id c.args.front.now.entries c.args.back.now.entries c.is_older.ensures.distinct (sym c.is_older.ensures.there ∙ c.if-is_older.false)))

pub returns-else-is_older-clause-slots : goal.returns-else-is_older-clause-slots
returns-else-is_older-clause-slots c =
    ap (queued c.args.front.now.entries) c.lock-else-is_older.ensures.slots ∙ changed_back c.args.id c.args.front.now.entries c.args.back.now.entries c.is_older.ensures.distinct (locked c.args.timeout c.args.now) (sym c.is_older.ensures.there ∙ c.if-is_older.false)
