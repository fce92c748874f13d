use Rattle.std.proofs.Common.{refl, sym, subst, ◌∙◌}
use Rattle.hib_journal.specs.Types.{Order}
use Rattle.hib_journal.specs.Kept.{past}
use Rattle.hib_listeners.specs.Told.{tells}
use Rattle.hib_core.specs.Factory.{HasGrown, FactoryState}
use Rattle.hib_core.specs.Calls.{IsObeyed}
use Rattle.hib_core.proofs.Hearing.{heard_same, heard_more, heard_told}
use Rattle.hib_core.proofs.Obeyed.{whole, deaf_kills, kept_obeys, refused_obeys, told_obeys}
use Rattle.hib_core.proofs.factory.Factory.kill.Goals as goal

pub invariant_of-self : goal.invariant_of-self
invariant_of-self g c =
    let told = tells g.L.Listener.heard g.L.Listener.left c.self.inside.listeners in
    heard_same c.self.inside.deaf c.self.inside.core.journal c.kill.new.self.journal g.N.Name.told told (c.kill.ensures.closed (sym c.is_open.ensures ∙ c.if-not-is_open.true)).1 c.self.invariant

pub invariant_of-self-in_err-kill : goal.invariant_of-self-in_err-kill
invariant_of-self-in_err-kill g c =
    let told = tells g.L.Listener.heard g.L.Listener.left c.self.inside.listeners in
    heard_same c.self.inside.deaf c.self.inside.core.journal c.kill-2.new.self.journal g.N.Name.told told c.in_err-kill.ensures.carried.same c.self.invariant

pub invariant_of-self-2 : goal.invariant_of-self-2
invariant_of-self-2 g c =
    let now = tells g.L.Listener.heard g.L.Listener.left c.self.inside.listeners in
    let next = tells g.L.Listener.heard g.L.Listener.left c.tell.new.listeners in
    heard_more c.journal.result.now c.self.inside.core.journal c.kill-2.new.self.journal c.tell.new.deaf c.self.inside.deaf g.N.Name.told now next c.tell.ensures.heard
    c.journal.ensures (c.in_ok-kill.ensures.grown (sym c.is_open.ensures ∙ c.if-not-is_open.false)) c.if-self.false c.self.invariant

pub returns-then-self-clause-obeyed : goal.returns-then-self-clause-obeyed
returns-then-self-clause-obeyed g c =
    let told = tells g.L.Listener.heard g.L.Listener.left c.self.inside.listeners in
    subst (λ (v : FactoryState). IsObeyed g.N.Name.script g.N.Name.from (Order.Kill c.args.number) c.idle_kill.result v v) c.self.view_is
    (deaf_kills g.N.Name.script g.N.Name.from c.args.number c.self.inside.core told c.self.inside.deaf c.idle_kill.result c.if-self.true c.idle_kill.ensures.law c.idle_kill.ensures.open)

pub returns-then-not-is_open-clause-obeyed : goal.returns-then-not-is_open-clause-obeyed
returns-then-not-is_open-clause-obeyed g c =
    let told = tells g.L.Listener.heard g.L.Listener.left c.self.inside.listeners in
    let m = c.kill.new.self in
    subst (λ (v : FactoryState). IsObeyed g.N.Name.script g.N.Name.from (Order.Kill c.args.number) c.kill.result v (whole m told c.self.inside.deaf)) c.self.view_is
    (kept_obeys g.N.Name.script g.N.Name.from (Order.Kill c.args.number) c.self.inside.core m told c.self.inside.deaf c.kill.result c.if-self.false
    (c.kill.ensures.closed (sym c.is_open.ensures ∙ c.if-not-is_open.true)).1 c.kill.ensures.carried)

pub returns-in_err-kill-clause-obeyed : goal.returns-in_err-kill-clause-obeyed
returns-in_err-kill-clause-obeyed g c =
    let told = tells g.L.Listener.heard g.L.Listener.left c.self.inside.listeners in
    let m = c.kill-2.new.self in
    subst (λ (v : FactoryState). IsObeyed g.N.Name.script g.N.Name.from (Order.Kill c.args.number) c.from_residual.result v (whole m told c.self.inside.deaf)) c.self.view_is
    (refused_obeys g.N.Name.script g.N.Name.from (Order.Kill c.args.number) c.self.inside.core m told c.self.inside.deaf _ c.from_residual.result c.if-self.false c.in_err-kill.ensures.carried c.from_residual.ensures.0)

pub returns-clause-obeyed : goal.returns-clause-obeyed
returns-clause-obeyed g c =
    let now = tells g.L.Listener.heard g.L.Listener.left c.self.inside.listeners in
    let next = tells g.L.Listener.heard g.L.Listener.left c.tell.new.listeners in
    let k = c.self.inside.core in
    let m = c.kill-2.new.self in
    let grown : HasGrown (past k.journal) (past m.journal) = c.in_ok-kill.ensures.grown (sym c.is_open.ensures ∙ c.if-not-is_open.false) in
    let h = heard_told c.journal.result.now m.journal (past k.journal) _ now now next c.tell.ensures.told c.journal.ensures grown refl in
    subst (λ (v : FactoryState). IsObeyed g.N.Name.script g.N.Name.from (Order.Kill c.args.number) c.tell.result v (whole m next c.tell.new.deaf)) c.self.view_is
    (told_obeys g.N.Name.script g.N.Name.from (Order.Kill c.args.number) k m now next c.self.inside.deaf c.tell.new.deaf _ c.tell.result c.if-self.false c.tell.ensures.deaf grown h c.in_ok-kill.ensures.carried)
