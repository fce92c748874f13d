use Rattle.std.proofs.Common.{◌≡◌, ◌+◌, ◌^◌, ◌∷◌, reverse, take, sym, ◌∙◌, subst}
use Rattle.hib_journal.specs.Types.{Entry}
use Rattle.hib_journal.specs.Sessions.{Journal}
use Rattle.hib_split_law.specs.Merged.{AreDue}
use Rattle.hib_clock.specs.LastTicks.{AreLast}
use Rattle.hib_merge.proofs.Ticking.{part_few, session_few, back_next, back_few, due_of, undue, tick_is, tick_other}
use Rattle.hib_merge.proofs.ticks.undue.Goals as goal

pub due-due-requires-clause-part : goal.due-due-requires-clause-part
due-due-requires-clause-part c =
    part_few c.loop-entry.ticks (reverse (take c.loop-entry.entry-index c.args.entries.now)) c.entry-item.result.part (2 ^ 62) c.loop-entry.invariant.last c.loop-entry.invariant.due
    (back_few c.args.entries.now c.loop-entry.entry-index (2 ^ 62) c.loop-entry-test.true c.requires)

pub due-due-requires-clause-session : goal.due-due-requires-clause-session
due-due-requires-clause-session c =
    session_few c.loop-entry.ticks (reverse (take c.loop-entry.entry-index c.args.entries.now)) c.entry-item.result.session (2 ^ 62) c.loop-entry.invariant.last c.loop-entry.invariant.due
    (back_few c.args.entries.now c.loop-entry.entry-index (2 ^ 62) c.loop-entry-test.true c.requires)

pub returns-then-ne : goal.returns-then-ne
returns-then-ne c =
    undue c.loop-entry.ticks c.args.entries.now c.loop-entry.entry-index c.entry-item.result c.due-due.result c.loop-entry-test.true c.entry-item.is c.loop-entry.invariant.last c.loop-entry.invariant.due c.due-due.ensures
    (tick_other c.entry-item.result.tick c.due-due.result c.if-ne.ensures)

pub loop-entry-preserved : goal.loop-entry-preserved
loop-entry-preserved c =
    let e : Entry = c.entry-item.result in
    let h : Journal = reverse (take c.loop-entry.entry-index c.args.entries.now) in
    let more : reverse (take (c.loop-entry.entry-index + 1) c.args.entries.now) ≡ e ∷ h = back_next c.args.entries.now c.loop-entry.entry-index e c.loop-entry-test.true c.entry-item.is in
    let same : e.tick ≡ c.due-due.result = tick_is e.tick c.due-due.result c.if-ne.ensures in
    record {
      last = subst (λ (j : Journal). AreLast c.note.new.self j) (sym more) (c.in_ok-note.ensures h c.loop-entry.invariant.last);
      due = subst (λ (j : Journal). AreDue j) (sym more) (c.loop-entry.invariant.due, same ∙ (c.due-due.ensures ∙ due_of c.loop-entry.ticks h e c.loop-entry.invariant.last));
    }
