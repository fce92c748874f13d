use Rattle.std.proofs.Common.{◌∙◌, ap}
use Rattle.hib_journal.specs.Sessions.{changes_after, changes_in, floor_after, time_after}
use Rattle.hib_follow.proofs.Written.{last_more}
use Rattle.hib_follow.proofs.desk.Desk.note.Goals as goal

pub returns : goal.returns
returns c = λ es mine at d. record {
  time = c.time_after-self.ensures ∙ ap (time_after c.args.entry.now.act c.args.entry.now.tick) d.time;
  floor = c.floor_after-self.ensures ∙ ap (floor_after c.args.entry.now.act c.args.entry.now.reply) d.floor;
  written = c.in_ok-note_written.ensures ∙ ap (changes_after c.args.entry.now.act) d.written;
  last = λ k. last_more es c.args.place c.args.entry.now k c.args.self.now.last.entries c.note_last.new.last.entries (changes_in mine) at
      (c.in_ok-note_last.ensures k) (d.last k);
}
