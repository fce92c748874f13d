use Rattle.std.proofs.Common.{is_some, sym, ap, ◌∙◌}
use Rattle.hib_room_laws.specs.Queued.{queued}
use Rattle.hib_rw_region.proofs.Queues.{look_back, put_front, put_back}
use Rattle.hib_rw_region.proofs.queue.replace.Goals as goal

pub replace-requires-else-is_older : goal.replace-requires-else-is_older
replace-requires-else-is_older c = sym (ap is_some (look_back c.args.id c.args.front.now.entries c.args.back.now.entries c.is_older.ensures.distinct (sym c.is_older.ensures.there ∙ c.if-is_older.false))) ∙ c.requires

pub returns-then-is_older : goal.returns-then-is_older
returns-then-is_older c =
    ap (λ x. queued x c.args.back.now.entries) c.replace.ensures ∙ put_front c.args.id c.args.front.now.entries c.args.back.now.entries c.is_older.ensures.distinct c.args.slot (sym c.is_older.ensures.there ∙ c.if-is_older.true)

pub returns-else-is_older : goal.returns-else-is_older
returns-else-is_older c =
    ap (queued c.args.front.now.entries) c.replace-else-is_older.ensures ∙ put_back c.args.id c.args.front.now.entries c.args.back.now.entries c.is_older.ensures.distinct c.args.slot (sym c.is_older.ensures.there ∙ c.if-is_older.false)
