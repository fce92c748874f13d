use Rattle.hib_follow.specs.Newest.{tables_in}
use Rattle.hib_follow.specs.Touched.{touched_keys}
use Rattle.hib_journal.specs.Sessions.{committer}
use Rattle.hib_states.specs.Here.{cached_here, committed_here, holders_here, kept_here, session_here, stamped_here, written_here}
use Rattle.hib_states.specs.States.{restart_facts}
use Rattle.hib_states.proofs.Told.{changed_put}
use Rattle.hib_states.proofs.changed.put_changed.Goals as goal

pub returns : goal.returns
returns c =
    changed_put c.args.script.now c.args.number (restart_facts c.args.entry.now.act)
    (session_here c.args.known.now.desks.all.items c.args.entry.now.act c.args.entry.now.session)
    (written_here c.args.entry.now.act c.args.entry.now.session)
    (committed_here c.args.entries.now c.args.known.now.desks.all.items (committer c.args.entry.now.act c.args.entry.now.reply c.args.entry.now.session))
    (cached_here c.args.entries.now c.args.known.now.shelf.shelves.entries (touched_keys c.args.entry.now))
    (stamped_here c.args.known.now.stamps.stamps.entries (tables_in c.args.entry.now.act))
    (kept_here c.args.script.now c.args.entry.now.act c.args.entry.now.reply)
    (holders_here c.args.known.now.holders.lines.entries c.args.entry.now.act)
    c.args.out.now.items c.put_restart.new.out.items c.put_session.new.out.items c.put_change.new.out.items c.put_commit.new.out.items c.put_touched.new.out.items
    c.put_stamping.new.out.items c.put_keeping.new.out.items c.put_holding.new.out.items
    (c.in_ok-put_restart.ensures c.args.script.now) c.in_ok-put_session.ensures c.in_ok-put_change.ensures c.in_ok-put_commit.ensures c.in_ok-put_touched.ensures
    c.in_ok-put_stamping.ensures c.in_ok-put_keeping.ensures c.in_ok-put_holding.ensures
