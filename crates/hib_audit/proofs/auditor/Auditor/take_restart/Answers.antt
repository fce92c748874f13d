use Rattle.std.proofs.Common.{◌==◌, Some, refl, ap, ◌∙◌}
use Rattle.std.specs.List.{list_any}
use Rattle.hib_journal.specs.Sessions.{is_open}
use Rattle.hib_engines.specs.Registry.{Opened, holds}
use Rattle.hib_audit.specs.Breaks.{start_rows}
use Rattle.hib_audit.specs.Standing.{AuditorState}
use Rattle.hib_engines.proofs.Opened.{holds_open}
use Rattle.hib_session.proofs.Killed.{killed_as}
use Rattle.hib_audit.proofs.AtCall.{next_of}
use Rattle.hib_audit.proofs.Taking.{knows_restart}
use Rattle.hib_audit.proofs.auditor.Auditor.take_restart.Goals as goal

pub returns : goal.returns
returns c = λ script h p.
    let e = c.args.entry.now in
    let n = next_of c.self.view_is p in
    let y : AuditorState = record { engines = c.restart.new.self; sessions = c.kill_all.new.sessions.items; written = c.self.inside.written.items; ticks = c.note.new.self } in
    knows_restart script (start_rows script) h e _ y n.known n.coming c.requires.by c.requires.act (c.is_done.ensures.0 c.if-not-is_done.false) (c.restart.ensures.answered script (Some (start_rows script)) h e.tick)
    (killed_as (λ s. list_any (λ n. n == s) c.open_sessions.result.now) (λ s. is_open s h) c.self.inside.sessions.items y.sessions
    (λ s l. c.open_sessions.ensures.which s ∙ (ap (λ (ps : Opened). holds s ps) c.registry.ensures ∙ holds_open c.self.inside.engines.registry h s n.known.engines.registry)) c.kill_all.ensures) refl c.in_ok-note.ensures
