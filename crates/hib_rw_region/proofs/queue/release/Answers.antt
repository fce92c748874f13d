use Rattle.std.proofs.Common.{◌≡◌, true, sym, ap, ◌∙◌, subst}
use Rattle.hib_soft_lock.specs.Steps.{released, is_held}
use Rattle.hib_room_laws.specs.Queued.{queued}
use Rattle.hib_rw_region.specs.Region.{shown_in}
use Rattle.hib_rw_region.proofs.Queues.{look_front, look_back, changed_front, changed_back}
use Rattle.hib_rw_region.proofs.queue.release.Goals as goal

pub release-requires : goal.release-requires
release-requires c = subst (λ o. is_held (shown_in o) ≡ true) (look_front c.args.id c.args.front.now.entries c.args.back.now.entries c.is_older.ensures.distinct (sym c.is_older.ensures.there ∙ c.if-is_older.true)) c.requires

pub release-requires-else-is_older : goal.release-requires-else-is_older
release-requires-else-is_older c = subst (λ o. is_held (shown_in o) ≡ true) (look_back c.args.id c.args.front.now.entries c.args.back.now.entries c.is_older.ensures.distinct (sym c.is_older.ensures.there ∙ c.if-is_older.false)) c.requires

pub returns-then-is_older : goal.returns-then-is_older
returns-then-is_older c =
    ap (λ x. queued x c.args.back.now.entries) c.release.ensures ∙ changed_front c.args.id c.args.front.now.entries c.args.back.now.entries c.is_older.ensures.distinct (released c.args.now) (sym c.is_older.ensures.there ∙ c.if-is_older.true)

pub returns-else-is_older : goal.returns-else-is_older
returns-else-is_older c =
    ap (queued c.args.front.now.entries) c.release-else-is_older.ensures ∙ changed_back c.args.id c.args.front.now.entries c.args.back.now.entries c.is_older.ensures.distinct (released c.args.now) (sym c.is_older.ensures.there ∙ c.if-is_older.false)
