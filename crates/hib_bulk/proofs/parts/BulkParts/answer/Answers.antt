use Rattle.std.proofs.Common.{◌≡◌, None, Some, sym, ap, subst, ◌∙◌}
use Rattle.std.proofs.lemmas.Bool.{false≢true}
use Rattle.std.proofs.lemmas.Option.{none-some, same_Some}
use Rattle.hib_journal.specs.Sessions.{own}
use Rattle.hib_bulk_law.specs.Plain.{plain}
use Rattle.hib_session.specs.Session.{number_of, own_reply}
use Rattle.hib_session.proofs.OwnReplies.{own_no_fault}
use Rattle.hib_engines.specs.Registry.{own_after}
use Rattle.hib_bulk.specs.Types.{BulkAct, BulkReply}
use Rattle.hib_bulk.specs.Standing.{IsReady, IsAnswered}
use Rattle.hib_bulk.proofs.Answered.{own_answered, of_other}
use Rattle.hib_bulk.proofs.parts.BulkParts.answer.Goals as goal

pub returns-in-Some-clause-answered : goal.returns-in-Some-clause-answered
returns-in-Some-clause-answered g c = λ lines told h f k.
    let s = number_of c.args.session.now in
    let script = c.args.script.now in
    let a = c.args.act.now in
    let x = c.args.self.now in
    let p : own_reply script (own s (plain h)) a ≡ Some c.in-Some.reply = sym (sym c.in-Some.is ∙ c.in_ok-reply.ensures (own s (plain h)) f) in
    let q : c.note_own.new.self ≡ record x { registry = own_after s a x.registry } = c.note_own.ensures ∙ ap (λ m. record x { registry = own_after m a x.registry }) c.number-number.ensures in
    record {
      answered = own_answered c.laws.ensures c.stays.ensures.elsewhere script lines told h s c.args.now a x k c.in-Some.reply c.note_own.new.self p q;
      mine = λ r t. same_Some c.in-Some.reply r (sym p ∙ t);
      fault = λ u. absurd (false≢true (sym (own_no_fault script (own s (plain h)) a c.in-Some.reply p) ∙ u));
    }

pub returns-clause-answered : goal.returns-clause-answered
returns-clause-answered g c = λ lines told h f k.
    let s = number_of c.args.session.now in
    let script = c.args.script.now in
    let a = c.args.act.now in
    let r = c.in_ok-reply-2.reply in
    let e = c.number-number.ensures in
    let ready = subst (λ m. IsReady script lines told h m c.args.now a c.args.self.now) (sym e) k in
    let none : own_reply script (own s (plain h)) a ≡ None = sym (c.in_ok-reply.ensures (own s (plain h)) f) ∙ c.in_default.is in
    record {
      answered = subst (λ m. IsAnswered script lines told h m c.args.now (BulkAct.Plain a) (BulkReply.Plain r) c.serve.new.self) e
          (c.in_ok-reply-2.ensures.answered lines told h ready (subst (λ m. own_reply script (own m (plain h)) a ≡ None) (sym e) none)
          (of_other a c.number-number.result (λ n p. c.in_default-part_of.not-Region n (c.part_of.ensures ∙ p))));
      mine = λ q t. absurd (none-some q (sym none ∙ t));
      fault = c.in_ok-reply-2.ensures.fault;
    }
