use Rattle.std.proofs.Common.{◌≡◌, ◌<◌, ℕ, false, true, Some, length, vec_len, rules, sym, subst}
use Rattle.std.proofs.lemmas.List.{places}
use Rattle.hib_audit.specs.Breaks.{start_rows}
use Rattle.hib_audit.specs.Standing.{AuditorState}
use Rattle.hib_audit.proofs.AtCall.{at_read, at_session, judged_at}
use Rattle.hib_audit.proofs.Taking.{knows_session, not_taken, ready_of, taken_of}
use Rattle.hib_audit.proofs.auditor.Auditor.take_session.Goals as goal

pub index-session-requires : goal.index-session-requires
index-session-requires c =
    let at = at_session c.self.view_is c.requires.coming.1 c.requires.by in
    let whole : vec_len c.self.inside.sessions ≡ length c.self.inside.sessions.items = search (rules, places) in
    subst (λ (i : ℕ). i < vec_len c.self.inside.sessions) (sym c.number.view_is) (subst (λ (m : ℕ). c.args.number < m) (sym whole) at.place)

pub index-written-requires : goal.index-written-requires
index-written-requires c =
    let at = at_session c.self.view_is c.requires.coming.1 c.requires.by in
    let whole : vec_len c.self.inside.written ≡ length c.self.inside.written.items = search (rules, places) in
    subst (λ (i : ℕ). i < vec_len c.self.inside.written) (sym c.number.view_is) (subst (λ (m : ℕ). c.args.number < m) (sym whole) at.written)

pub answers-requires-clause-late : goal.answers-requires-clause-late
answers-requires-clause-late c = (at_session c.self.view_is c.requires.coming.1 c.requires.by).next.coming.tick.bounded

pub answers-requires-clause-tables : goal.answers-requires-clause-tables
answers-requires-clause-tables c = (at_session c.self.view_is c.requires.coming.1 c.requires.by).tables

pub answers-requires-clause-entities : goal.answers-requires-clause-entities
answers-requires-clause-entities c = (at_session c.self.view_is c.requires.coming.1 c.requires.by).next.known.engines.stamps.tables

pub answers-requires-clause-mapping : goal.answers-requires-clause-mapping
answers-requires-clause-mapping c = (at_session c.self.view_is c.requires.coming.1 c.requires.by).next.known.built.entities

pub advance-requires-clause-there : goal.advance-requires-clause-there
advance-requires-clause-there c = (at_session c.self.view_is c.requires.coming.1 c.requires.by).place

pub advance-requires-clause-inside : goal.advance-requires-clause-inside
advance-requires-clause-inside c = (at_session c.self.view_is c.requires.coming.1 c.requires.by).inside

pub note_written-requires-clause-there : goal.note_written-requires-clause-there
note_written-requires-clause-there c = (at_session c.self.view_is c.requires.coming.1 c.requires.by).written

pub returns-then-not-branch : goal.returns-then-not-branch
returns-then-not-branch c = λ h p.
    let script = c.args.script.now in
    let e = c.args.entry.now in
    let at = at_read c.self.view_is p c.requires.by c.number.view_is c.index-session.ensures c.index-written.ensures in
    let judged = judged_at _ false c.answers.new.engines at c.if-not-branch.true c.in_ok-answers.ensures in
    not_taken script (start_rows script) h (Some c.args.number) e c.answers.new.engines at.next.coming c.requires.by judged

pub returns : goal.returns
returns c = λ h p.
    let script = c.args.script.now in
    let start = start_rows script in
    let s = c.args.number in
    let e = c.args.entry.now in
    let at = at_read c.self.view_is p c.requires.by c.number.view_is c.index-session.ensures c.index-written.ensures in
    let n = at.next in
    let judged = judged_at _ true c.answers.new.engines at c.if-not-branch.false c.in_ok-answers.ensures in
    let z : AuditorState = record { engines = c.answers.new.engines; sessions = c.advance.new.sessions.items; written = c.note_written.new.written.items; ticks = c.note.new.self } in
    knows_session script start h s e _ z n.known n.coming c.requires.by judged
    (c.in_ok-advance.ensures h n.known.sessions (ready_of script start h s e _ n.known n.coming c.requires.by).live (taken_of script start h s e c.answers.new.engines n.coming c.requires.by judged))
    (c.in_ok-note_written.ensures script h n.known.written) c.in_ok-note.ensures
