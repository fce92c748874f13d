use Rattle.std.proofs.Common.{◌++◌, [], ◌∷◌, List, ap, ◌∙◌, arith}
use Rattle.hib_session.specs.declared.session.Session.{Session}
use Rattle.hib_live.proofs.Goes.{begun}
use Rattle.hib_live.proofs.steps.LiveCore.begin.Goals as goal

pub invariant_of-self-2 : goal.invariant_of-self-2
invariant_of-self-2 g c =
    let y = c.open.result in
    begun c.law.ensures.obeyed g.N.Name.script g.N.Name.from c.self.inside.script c.add_session.new.script c.self.inside.journal c.self.inside.engines c.self.inside.sessions.items
    c.push_reserved.new.self.items c.in_ok-name.name y (omega (arith, c.len-count.ensures, c.if-count-ge-MOST_SESSIONS.false)) c.in_ok-add_session.ensures.ok
    (c.push_reserved.ensures.items ∙ ap (λ (zs : List Session). zs ++ y ∷ []) c.reserve.ensures.items)
    (omega (arith, c.open.ensures.number, c.len-count.ensures, c.if-count-ge-MOST_SESSIONS.false)) c.open.ensures.alive c.open.ensures.follows c.self.invariant
