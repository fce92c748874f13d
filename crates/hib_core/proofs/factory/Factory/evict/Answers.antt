use Rattle.std.proofs.Common.{refl, subst}
use Rattle.hib_journal.specs.Types.{Order}
use Rattle.hib_journal.specs.Kept.{past}
use Rattle.hib_listeners.specs.Told.{tells}
use Rattle.hib_core.specs.Factory.{HasGrown, FactoryState}
use Rattle.hib_core.specs.Calls.{IsObeyed}
use Rattle.hib_core.proofs.Hearing.{heard_same, heard_more, heard_told}
use Rattle.hib_core.proofs.Obeyed.{whole, deaf_obeys, refused_obeys, told_obeys}
use Rattle.hib_core.proofs.factory.Factory.evict.Goals as goal

pub invariant_of-self : goal.invariant_of-self
invariant_of-self g c =
    let told = tells g.L.Listener.heard g.L.Listener.left c.self.inside.listeners in
    heard_same c.self.inside.deaf c.self.inside.core.journal c.evict.new.self.journal g.N.Name.told told c.in_err-evict.ensures.carried.same c.self.invariant

pub invariant_of-self-2 : goal.invariant_of-self-2
invariant_of-self-2 g c =
    let now = tells g.L.Listener.heard g.L.Listener.left c.self.inside.listeners in
    let next = tells g.L.Listener.heard g.L.Listener.left c.tell.new.listeners in
    heard_more c.journal.result.now c.self.inside.core.journal c.evict.new.self.journal c.tell.new.deaf c.self.inside.deaf g.N.Name.told now next c.tell.ensures.heard
    c.journal.ensures c.in_ok-evict.ensures.grown c.if-self.false c.self.invariant

pub returns-then-self : goal.returns-then-self
returns-then-self g c =
    let told = tells g.L.Listener.heard g.L.Listener.left c.self.inside.listeners in
    subst (λ (v : FactoryState). IsObeyed g.N.Name.script g.N.Name.from (Order.Evict c.args.key) _ v v) c.self.view_is
    (deaf_obeys g.N.Name.script g.N.Name.from (Order.Evict c.args.key) c.self.inside.core told c.self.inside.deaf _ c.if-self.true c.lawful.ensures.law)

pub returns-in_err-evict : goal.returns-in_err-evict
returns-in_err-evict g c =
    let told = tells g.L.Listener.heard g.L.Listener.left c.self.inside.listeners in
    let m = c.evict.new.self in
    subst (λ (v : FactoryState). IsObeyed g.N.Name.script g.N.Name.from (Order.Evict c.args.key) c.from_residual.result v (whole m told c.self.inside.deaf)) c.self.view_is
    (refused_obeys g.N.Name.script g.N.Name.from (Order.Evict c.args.key) c.self.inside.core m told c.self.inside.deaf _ c.from_residual.result c.if-self.false c.in_err-evict.ensures.carried c.from_residual.ensures.0)

pub returns : goal.returns
returns g c =
    let now = tells g.L.Listener.heard g.L.Listener.left c.self.inside.listeners in
    let next = tells g.L.Listener.heard g.L.Listener.left c.tell.new.listeners in
    let k = c.self.inside.core in
    let m = c.evict.new.self in
    let grown : HasGrown (past k.journal) (past m.journal) = c.in_ok-evict.ensures.grown in
    let h = heard_told c.journal.result.now m.journal (past k.journal) _ now now next c.tell.ensures.told c.journal.ensures grown refl in
    subst (λ (v : FactoryState). IsObeyed g.N.Name.script g.N.Name.from (Order.Evict c.args.key) c.tell.result v (whole m next c.tell.new.deaf)) c.self.view_is
    (told_obeys g.N.Name.script g.N.Name.from (Order.Evict c.args.key) k m now next c.self.inside.deaf c.tell.new.deaf _ c.tell.result c.if-self.false c.tell.ensures.deaf grown h c.in_ok-evict.ensures.carried)
