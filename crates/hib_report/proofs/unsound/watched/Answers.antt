use Rattle.std.proofs.Common.{◌≡◌, ◌∷◌, ◌∙◌, ◌+◌, sym, ap, subst, reverse, take}
use Rattle.hib_journal.specs.Types.{Entry}
use Rattle.hib_journal.specs.Sessions.{Journal}
use Rattle.hib_report.specs.Watch.{Watches}
use Rattle.hib_report.proofs.Passed.{reverse_more}
use Rattle.hib_report.proofs.unsound.watched.Goals as goal

pub loop-entry-preserved : goal.loop-entry-preserved
loop-entry-preserved c =
    let e : Entry = c.entry-item.result in
    let past : Journal = reverse (take c.loop-entry.entry-index c.args.entries.now) in
    let more : reverse (take (c.loop-entry.entry-index + 1) c.args.entries.now) ≡ e ∷ past =
    reverse_more c.args.entries.now c.loop-entry.entry-index e c.loop-entry-test.true ∙ ap (λ (x : Entry). x ∷ past) (sym c.entry-item.is) in
    subst (λ (h : Journal). Watches c.note.new.self.courses.entries c.note.new.self.written.entries h) (sym more) (c.in_ok-note.ensures past c.loop-entry.invariant)
