use Rattle.hib_report.proofs.Watched.{on_ok, watches_more}
use Rattle.hib_report.proofs.watch.Watch.note.Goals as goal

pub returns : goal.returns
returns c = on_ok c.note_written.result
    (λ n past. watches_more c.args.self.now.courses.entries c.note_answer.new.courses.entries c.note_commit.new.courses.entries
    c.args.self.now.written.entries c.note_written.new.written.entries c.args.entry.now past c.in_ok-note_answer.ensures c.in_ok-note_commit.ensures n)
    c.note_written.ensures
