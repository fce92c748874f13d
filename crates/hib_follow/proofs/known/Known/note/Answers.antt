use Rattle.std.proofs.Common.{ap, ◌+◌}
use Rattle.hib_follow.proofs.Buried.{deleted_more}
use Rattle.hib_follow.proofs.Lined.{holders_more}
use Rattle.hib_follow.proofs.Stepping.{shelves_more, stamps_more, keeps_more}
use Rattle.hib_follow.proofs.known.Known.note.Goals as goal

pub returns : goal.returns
returns c = λ start h p l k. record {
  shelf = shelves_more c.args.script.now start c.args.entries.now c.args.entry.now h c.args.place c.args.self.now.shelf.shelves.entries c.note.new.self.shelves.entries l p
      c.in_ok-note.ensures.kept c.in_ok-note.ensures.since k.shelf;
  stamps = stamps_more c.args.script.now c.args.entry.now h (c.args.place + 1) c.args.self.now.stamps.stamps.entries c.note-2.new.self.stamps.entries (ap (λ i. i + 1) p)
      c.in_ok-note-2.ensures.values c.in_ok-note-2.ensures.since k.stamps;
  keeps = keeps_more c.args.entry.now h (c.args.place + 1) c.args.self.now.keeps.keeps.entries c.note-3.new.self.keeps.entries (ap (λ i. i + 1) p)
      c.in_ok-note-3.ensures k.keeps;
  desks = c.in_ok-note-6.ensures c.args.entries.now h c.requires k.desks;
  deleted = deleted_more c.args.entries.now c.args.entry.now h (c.args.place + 1) c.args.self.now.desks.all.items c.args.self.now.deleted.numbers.entries
      c.note-4.new.self.numbers.entries (ap (λ i. i + 1) p) k.desks c.in_ok-note-4.ensures k.deleted;
  holders = holders_more c.args.entry.now h c.args.self.now.holders.lines.entries c.note-5.new.self.lines.entries c.in_ok-note-5.ensures k.holders;
}
