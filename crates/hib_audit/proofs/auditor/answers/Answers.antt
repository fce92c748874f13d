use Rattle.std.proofs.Common.{◌≡◌, ℕ, Some, sym, subst, ◌∙◌}
use Rattle.std.proofs.lemmas.Bool.{true≢false}
use Rattle.hib_journal.specs.Sessions.{changes}
use Rattle.hib_journal.specs.Legal.{fault_of}
use Rattle.hib_session.specs.Session.{number_of}
use Rattle.hib_engines.specs.Engines.{IsReady, IsAnswered}
use Rattle.hib_audit.specs.Breaks.{start_rows}
use Rattle.hib_audit.proofs.Taking.{reply_judged, calm_if}
use Rattle.hib_audit.proofs.auditor.answers.Goals as goal

pub returns-then-may_fail : goal.returns-then-may_fail
returns-then-may_fail c = λ h d.
    let n = number_of c.args.session.now in
    let script = c.args.script.now in
    let e = c.args.entry.now in
    let told = Some (start_rows script) in
    let fault : fault_of (changes n h) e.act ≡ Some e.reply = (c.may_fail.ensures (changes n h) d.written).0 c.if-may_fail.true in
    subst (λ (m : ℕ). IsAnswered script told h (Some m) e.tick e.act e.reply c.fail.new.self) c.number.ensures
    (c.fail.ensures.answered script told h e.tick e.reply (subst (λ (m : ℕ). IsReady script told h m e.tick e.act c.args.engines.now) (sym c.number.ensures) d.ready)
    (subst (λ (m : ℕ). fault_of (changes m h) e.act ≡ Some e.reply) (sym c.number.ensures) fault))

pub returns : goal.returns
returns c = λ h d.
    let n = number_of c.args.session.now in
    let script = c.args.script.now in
    let e = c.args.entry.now in
    let told = c.in_ok-reply.ensures.answered (Some (start_rows script)) h d.follows d.ready in
    reply_judged c.is_same_reply.result script (start_rows script) h (Some n) e.tick e.act c.in_ok-reply.reply e.reply c.answer.new.self c.is_same_reply.ensures.0 c.is_same_reply.ensures.1
    told.answered (λ z. calm_if c.in_ok-reply.reply _ _ z told.fault)
    (λ f. true≢false (sym ((c.may_fail.ensures (changes n h) d.written).1 f) ∙ c.if-may_fail.false))
