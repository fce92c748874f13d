use Rattle.std.proofs.Common.{None, Some, refl, sym, subst, ◌∙◌}
use Rattle.std.proofs.lemmas.Bool.{true≢false}
use Rattle.hib_journal.specs.Types.{Act}
use Rattle.hib_journal.specs.Sessions.{changes}
use Rattle.hib_audit.specs.Breaks.{start_rows}
use Rattle.hib_engines.specs.Engines.{IsAnswered}
use Rattle.hib_audit.specs.Standing.{AuditorState}
use Rattle.hib_audit.proofs.AtCall.{next_of}
use Rattle.hib_audit.proofs.Taking.{judged_true, judged_false, not_taken, evict_cached, evict_late, evict_sure, knows_evict}
use Rattle.hib_audit.proofs.auditor.Auditor.take_evict.Goals as goal

pub returns : goal.returns
returns c = λ script h p.
    let e = c.args.entry.now in
    let n = next_of c.self.view_is p in
    let y : AuditorState = record { engines = c.evict.new.self; sessions = c.self.inside.sessions.items; written = c.self.inside.written.items; ticks = c.note.new.self } in
    let v : IsAnswered script (Some (start_rows script)) h None e.tick e.act c.in_ok-reply.reply c.evict.new.self =
    subst (λ (a : Act). IsAnswered script (Some (start_rows script)) h None e.tick a c.in_ok-reply.reply c.evict.new.self) (sym c.requires.act)
    (c.in_ok-reply.ensures.answered script (Some (start_rows script)) h n.known.engines (evict_cached script h c.args.key e.act c.requires.act n.coming.comes) (evict_late script h c.args.key e n.coming c.requires.act)) in
    knows_evict script (start_rows script) h c.args.key e _ y n.known n.coming c.requires.by c.requires.act
    (judged_true script (start_rows script) h None e.tick e.act c.in_ok-reply.reply e.reply c.evict.new.self v (c.is_same_reply.ensures.0 c.if-not-is_same_reply.false)) refl refl c.in_ok-note.ensures

pub returns-then-not-is_same_reply : goal.returns-then-not-is_same_reply
returns-then-not-is_same_reply c = λ script h p z.
    let e = c.args.entry.now in
    let n = next_of c.self.view_is p in
    let v : IsAnswered script (Some (start_rows script)) h None e.tick e.act c.in_ok-reply.reply c.evict.new.self =
    subst (λ (a : Act). IsAnswered script (Some (start_rows script)) h None e.tick a c.in_ok-reply.reply c.evict.new.self) (sym c.requires.act)
    (c.in_ok-reply.ensures.answered script (Some (start_rows script)) h n.known.engines (evict_cached script h c.args.key e.act c.requires.act n.coming.comes) (evict_late script h c.args.key e n.coming c.requires.act)) in
    not_taken script (start_rows script) h None e c.evict.new.self n.coming c.requires.by (λ _. judged_false script (start_rows script) h None e.tick e.act c.in_ok-reply.reply e.reply v.reply c.in_ok-reply.ensures.calm
    (λ d. true≢false (sym (c.is_same_reply.ensures.1 d) ∙ c.if-not-is_same_reply.true)) (evict_sure (changes 0 h) c.args.key e.act e.reply c.requires.act)) z
