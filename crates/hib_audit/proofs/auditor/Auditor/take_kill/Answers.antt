use Rattle.std.proofs.Common.{◌==◌, ℕ, Some, refl, subst}
use Rattle.hib_audit.specs.Breaks.{start_rows}
use Rattle.hib_session.specs.Killed.{AreKilled}
use Rattle.hib_audit.specs.Standing.{AuditorState}
use Rattle.hib_audit.proofs.AtCall.{next_of}
use Rattle.hib_audit.proofs.Taking.{knows_kill}
use Rattle.hib_audit.proofs.auditor.Auditor.take_kill.Goals as goal

pub returns : goal.returns
returns c = λ script h p.
    let e = c.args.entry.now in
    let n = next_of c.self.view_is p in
    let y : AuditorState = record { engines = c.kill.new.self; sessions = c.kill_at.new.sessions.items; written = c.self.inside.written.items; ticks = c.note.new.self } in
    knows_kill script (start_rows script) h c.args.session e _ y n.known n.coming c.requires.by c.requires.act (c.is_done.ensures.0 c.if-not-is_done.false) (c.kill.ensures.answered script (Some (start_rows script)) h e.tick)
    (subst (λ (m : ℕ). AreKilled (λ s. m == s) c.self.inside.sessions.items y.sessions) c.session.view_is c.kill_at.ensures) refl c.in_ok-note.ensures
