use Rattle.std.proofs.Common.{nat_eq, ap, ◌∙◌}
use Rattle.indexmap.proofs.CallerLemmas.{insert_entry-new}
use Rattle.hib_room_laws.specs.Queued.{queued}
use Rattle.hib_room_laws.proofs.Queued.{back_absent, queued_more}
use Rattle.hib_other_regions.proofs.items.insert_new.Goals as goal

pub returns-clause-ok : goal.returns-clause-ok
returns-clause-ok c =
    ap (queued c.args.front.now.entries)
    (c.in_ok-insert.ensures.entries
    ∙ insert_entry-new nat_eq c.args.back.now c.args.id (c.args.row, c.args.now)
    (back_absent c.args.id c.args.front.now.entries c.args.back.now.entries c.len-distinct.ensures.unique c.requires))
    ∙ queued_more c.args.front.now.entries c.args.back.now.entries (c.args.id, (c.args.row, c.args.now))
