use Rattle.std.proofs.Common.{ap}
use Rattle.std.proofs.lemmas.Result.{on_ok_weaker}
use Rattle.hib_journal.specs.Next.{strategy}
use Rattle.hib_journal.specs.Slot.{evicted_in}
use Rattle.hib_journal.specs.Types.{Key}
use Rattle.hib_follow.specs.Shelves.{kept_at, kept_slot, shelved_kept, shelved_since, since_at}
use Rattle.hib_follow.specs.Touched.{is_key, leaving}
use Rattle.hib_follow.proofs.Touching.{kept_if, touched_slot, touched_since}
use Rattle.hib_follow.proofs.shelf.note_key.Goals as goal

pub returns-in-Ok-clause-kept : goal.returns-in-Ok-clause-kept
returns-in-Ok-clause-kept c =
    on_ok_weaker c.note_leaving.result
    (λ f k. touched_slot (λ (j : Key). strategy c.args.script.now j.entity) c.args.script.now.timeout c.args.entry.now.tick k c.args.key.now
    c.args.entry.now.act c.args.entry.now.reply (λ (j : Key). kept_slot c.args.entries.now (kept_at c.args.shelves.now.entries j))
    (λ (j : Key). kept_slot c.args.entries.now (kept_at c.note_own.new.shelves.entries j))
    (kept_slot c.args.entries.now (kept_at c.note_leaving.new.shelves.entries k)) c.in-Ok.ensures.kept
    (λ j p. ap (λ o. kept_slot c.args.entries.now (shelved_kept o)) (c.in-Ok.ensures.others j p))
    (kept_if c.args.entries.now (is_key k (leaving c.args.key.now (evicted_in c.args.entry.now.reply))) (kept_at c.note_own.new.shelves.entries k)
    (kept_at c.note_leaving.new.shelves.entries k) (f k)))
    c.note_leaving.ensures.kept

pub returns-in-Ok-clause-since : goal.returns-in-Ok-clause-since
returns-in-Ok-clause-since c =
    on_ok_weaker c.note_leaving.result
    (λ f k. touched_since c.args.since k c.args.key.now c.args.entry.now.act c.args.entry.now.reply (since_at c.args.shelves.now.entries)
    (since_at c.note_own.new.shelves.entries) (since_at c.note_leaving.new.shelves.entries k) c.in-Ok.ensures.since
    (λ j p. ap shelved_since (c.in-Ok.ensures.others j p)) (f k))
    c.note_leaving.ensures.since
