use Rattle.std.proofs.Common.{◌≡◌, ◌∷◌, ◌∙◌, ◌+◌, sym, ap, reverse, take}
use Rattle.hib_journal.specs.Types.{Entry}
use Rattle.hib_journal.specs.Sessions.{Journal}
use Rattle.hib_report.proofs.Chosen.{chosen_more}
use Rattle.hib_report.proofs.Passed.{reverse_more}
use Rattle.hib_report.proofs.unsound.unsound_named.Goals as goal

pub loop-entry-preserved : goal.loop-entry-preserved
loop-entry-preserved c = λ past watched.
    let e : Entry = c.entry-item.result in
    let before : Journal = reverse (take c.loop-entry.entry-index c.args.entries.now) in
    let more : reverse (take (c.loop-entry.entry-index + 1) c.args.entries.now) ≡ e ∷ before =
    reverse_more c.args.entries.now c.loop-entry.entry-index e c.loop-entry-test.true ∙ ap (λ (x : Entry). x ∷ before) (sym c.entry-item.is) in
    chosen_more c.args.script.now past before (reverse (take (c.loop-entry.entry-index + 1) c.args.entries.now)) e c.loop-entry.keys.keys c.add_unsound.new.keys.keys
    more (c.loop-entry.invariant past watched) (c.in_ok-add_unsound.ensures past watched)
