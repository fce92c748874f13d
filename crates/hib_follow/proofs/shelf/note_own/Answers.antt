use Rattle.std.proofs.Common.{sym, ◌∙◌}
use Rattle.hib_journal.specs.Next.{strategy}
use Rattle.hib_journal.specs.Slot.{touch_here}
use Rattle.hib_follow.specs.Shelves.{kept_at, kept_slot}
use Rattle.hib_follow.proofs.Touching.{untouched}
use Rattle.hib_follow.proofs.shelf.note_own.Goals as goal

pub returns-else-is_touched-clause-kept : goal.returns-else-is_touched-clause-kept
returns-else-is_touched-clause-kept c =
    untouched (strategy c.args.script.now c.args.key.now.entity) c.args.script.now.timeout c.args.entry.now.tick
    (touch_here c.args.entry.now.act c.args.entry.now.reply) (kept_slot c.args.entries.now (kept_at c.args.shelves.now.entries c.args.key.now))
    (sym c.is_touched.ensures ∙ c.if-is_touched.false)
