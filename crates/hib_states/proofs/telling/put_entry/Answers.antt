use Rattle.hib_states.proofs.Told.{entry_put}
use Rattle.hib_states.proofs.telling.put_entry.Goals as goal

pub returns-clause-text : goal.returns-clause-text
returns-clause-text c = λ start h p l k w.
    entry_put c.args.script.now start c.args.entries.now h c.args.entry.now c.args.place c.args.known.now c.note.new.self c.args.out.now.items c.put_cause.new.out.items
    c.put_unsound_keys.new.out.items c.put_changed.new.out.items c.put_copies.new.out.items p l k (c.in_ok-note.ensures start h p l k) c.in_ok-put_cause.ensures
    c.in_ok-put_unsound_keys.ensures c.in_ok-put_changed.ensures (c.in_ok-put_copies.ensures start h l (c.in_ok-note-2.ensures start h l w))

pub returns-clause-known : goal.returns-clause-known
returns-clause-known c = λ start h p l k. c.in_ok-note.ensures start h p l k

pub returns-clause-seats : goal.returns-clause-seats
returns-clause-seats c = λ start h l w. c.in_ok-note-2.ensures start h l w
