use Rattle.std.proofs.Common.{◌≡◌, None, Some, refl, sym, ap, subst, ◌∙◌}
use Rattle.hib_journal.specs.Sessions.{own}
use Rattle.hib_nodes_law.specs.Nodes.{entries}
use Rattle.hib_session.specs.Session.{number_of, own_reply}
use Rattle.hib_engines.specs.Registry.{own_after}
use Rattle.hib_engines.proofs.Outcomes.{three_ok, map_err, map_on, err_all}
use Rattle.hib_nodes.specs.Parts.{with_node}
use Rattle.hib_nodes.specs.Standing.{IsReady, IsAnswered, IsAskedFor, IsRefused, node_in}
use Rattle.hib_nodes.proofs.OwnAnswers.{own_told, part_told}
use Rattle.hib_nodes.proofs.Refused.{own_refused, refused_same}
use Rattle.hib_nodes.proofs.parts.NodesParts.answer.Goals as goal

pub returns-in-Some-clause-answered : goal.returns-in-Some-clause-answered
returns-in-Some-clause-answered g c = λ told h f k.
    let s = number_of c.args.session.now in
    let script = c.args.script.now in
    let a = c.args.act.now in
    let n = c.args.node in
    let x = c.args.self.now in
    let y = c.note_own.new.self in
    let p : own_reply script (own s (entries h)) a ≡ Some c.in-Some.reply = sym (sym c.in-Some.is ∙ c.in_ok-reply.ensures (own s (entries h)) f) in
    own_told script told h n s c.args.now a c.in-Some.reply x y k p
    (c.note_own.ensures ∙ ap (λ m. with_node n (record (node_in x n) { registry = own_after m a (node_in x n).registry }) x) c.number-number.ensures)

pub returns-clause-answered : goal.returns-clause-answered
returns-clause-answered g c = three_ok c.serve.result _ _ _ _ c.serve.ensures.answered c.serve.ensures.asked c.serve.ensures.fault (λ r p q u told h f k.
    let s = number_of c.args.session.now in
    let script = c.args.script.now in
    let a = c.args.act.now in
    let n = c.args.node in
    let e = c.number-number.ensures in
    let ready = subst (λ m. IsReady script told h n m c.args.now a c.args.self.now) (sym e) k in
    let none = sym (c.in_ok-reply.ensures (own s (entries h)) f) ∙ c.in_default.is in
    part_told script told h n s c.args.now a r c.args.self.now c.serve.new.self none
    (subst (λ m. IsAnswered script told h n m c.args.now a r c.serve.new.self) e
    (p told h ready (subst (λ m. own_reply script (own m (entries h)) a ≡ None) (sym e) none)))
    (subst (λ m. IsAskedFor h m a c.args.self.now c.serve.new.self) e (q told h ready)) u)

pub returns-in_err-reply-clause-refused : goal.returns-in_err-reply-clause-refused
returns-in_err-reply-clause-refused g c = err_all c.from_residual.result _ (λ told h k. refused_same h (number_of c.args.session.now) c.args.act.now c.args.self.now c.args.self.now refl)

pub returns-in-Some-clause-passed : goal.returns-in-Some-clause-passed
returns-in-Some-clause-passed g c = λ b told h k.
    own_refused h c.args.node (number_of c.args.session.now) c.number-number.result c.args.act.now c.args.self.now c.note_own.new.self c.note_own.ensures b

pub returns-clause-passed : goal.returns-clause-passed
returns-clause-passed g c = map_on c.serve.result _ _ c.serve.ensures.passed (λ p b told h k.
    let e = c.number-number.ensures in
    subst (λ m. IsRefused h m c.args.act.now c.args.self.now c.serve.new.self) e
    (p b told h (subst (λ m. IsReady c.args.script.now told h c.args.node m c.args.now c.args.act.now c.args.self.now) (sym e) k)))

pub returns-clause-refused : goal.returns-clause-refused
returns-clause-refused g c = map_err c.serve.result _ _ c.serve.ensures.refused (λ p told h k.
    let e = c.number-number.ensures in
    subst (λ m. IsRefused h m c.args.act.now c.args.self.now c.serve.new.self) e
    (p told h (subst (λ m. IsReady c.args.script.now told h c.args.node m c.args.now c.args.act.now c.args.self.now) (sym e) k)))
