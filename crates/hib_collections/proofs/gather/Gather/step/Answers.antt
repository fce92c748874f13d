use Rattle.std.proofs.Common.{◌≡◌, true, false, is_ok, refl, sym, ap, subst, ◌∙◌}
use Rattle.hib_engines.proofs.Outcomes.{err_all}
use Rattle.hib_listeners.specs.Told.{tells}
use Rattle.hib_listeners.specs.Heard.{HaveHeard}
use Rattle.hib_collections_law.specs.Gathered.{plain}
use Rattle.hib_collections.specs.Gather.{GatherState, HasStepped, Hears, heard_in}
use Rattle.hib_collections.specs.Kept.{past}
use Rattle.hib_collections.specs.Run.{IsAskedOnceMore, IsStepRefused}
use Rattle.hib_collections.proofs.Hearing.{first_off, further, goes_one, heard_none, heard_so, heard_turn, hears_same, hears_turn, moved, moved_at, none_ok, once_more, rested, stepped}
use Rattle.hib_collections.proofs.Left.{refused_none}
use Rattle.hib_collections.proofs.gather.Gather.step.Goals as goal

pub returns-then-self-clause-fault : goal.returns-then-self-clause-fault
returns-then-self-clause-fault g c = λ x p _. absurd (further (past c.args.self.now.journal) x p)

pub returns-then-self-clause-hears : goal.returns-then-self-clause-hears
returns-then-self-clause-hears g c = let h = plain g.N.Name.script (past c.args.self.now.journal) in heard_none h h _ c.args.self.now.told c.args.self.now.told refl refl

pub returns-then-self-clause-counts : goal.returns-then-self-clause-counts
returns-then-self-clause-counts g c =
    let v = c.args.self.now in
    let f : v.deaf ≡ v.deaf → IsStepRefused g.N.Name.script g.N.Name.defs (past v.journal) c.args.number v.engines v.engines =
    λ _. refused_none g.N.Name.script g.N.Name.defs (past v.journal) c.args.number v.engines in
    err_all c.idle_step.result _ f

pub returns-in_err-turned-clause-asks_once : goal.returns-in_err-turned-clause-asks_once
returns-in_err-turned-clause-asks_once g c = λ x p.
    let same = c.in_err-turned.ensures.same ∙ ap (λ (v : GatherState). past v.journal) c.self.view_is in
    absurd (further (past c.args.self.now.journal) x (sym same ∙ p))

pub returns-in_err-turned-clause-counts : goal.returns-in_err-turned-clause-counts
returns-in_err-turned-clause-counts g c =
    let y = c.step-stepped.new.self.engines in
    let f : c.self.inside.deaf ≡ c.args.self.now.deaf → IsStepRefused g.N.Name.script g.N.Name.defs (past c.args.self.now.journal) c.args.number c.args.self.now.engines y =
    λ _. subst (λ (v : GatherState). IsStepRefused g.N.Name.script g.N.Name.defs (past v.journal) c.args.number v.engines y) c.self.view_is c.in_err-turned.ensures.counts in
    err_all c.from_residual.result _ f

pub returns-in_err-turned-clause-fault : goal.returns-in_err-turned-clause-fault
returns-in_err-turned-clause-fault g c = λ x p _.
    let same = c.in_err-turned.ensures.same ∙ ap (λ (v : GatherState). past v.journal) c.self.view_is in
    absurd (further (past c.args.self.now.journal) x (sym same ∙ p))

pub returns-in_err-turned-clause-hears : goal.returns-in_err-turned-clause-hears
returns-in_err-turned-clause-hears g c =
    hears_same g.N.Name.script (past c.args.self.now.journal) (past c.step-stepped.new.self.journal) _ c.args.self.now.told (tells g.L.Listener.heard g.L.Listener.left c.self.inside.listeners)
    (c.in_err-turned.ensures.same ∙ ap (λ (v : GatherState). past v.journal) c.self.view_is) (ap (λ (v : GatherState). v.told) c.self.view_is)

pub returns-then-is_done-clause-fault : goal.returns-then-is_done-clause-fault
returns-then-is_done-clause-fault g c = λ x p _.
    let rest = rested g.N.Name.script g.N.Name.defs c.args.number (past c.self.inside.core.journal) (past c.step-stepped.new.self.journal) c.self.inside.core.engines c.step-stepped.new.self.engines
    c.in_ok-turned.turned (sym c.is_done.ensures ∙ c.if-is_done.true) c.in_ok-turned.ensures.does in
    absurd (further (past c.args.self.now.journal) x (sym (rest.same ∙ ap (λ (v : GatherState). past v.journal) c.self.view_is) ∙ p))

pub returns-then-is_done-clause-asks_once : goal.returns-then-is_done-clause-asks_once
returns-then-is_done-clause-asks_once g c = λ x p.
    let rest = rested g.N.Name.script g.N.Name.defs c.args.number (past c.self.inside.core.journal) (past c.step-stepped.new.self.journal) c.self.inside.core.engines c.step-stepped.new.self.engines
    c.in_ok-turned.turned (sym c.is_done.ensures ∙ c.if-is_done.true) c.in_ok-turned.ensures.does in
    absurd (further (past c.args.self.now.journal) x (sym (rest.same ∙ ap (λ (v : GatherState). past v.journal) c.self.view_is) ∙ p))

pub returns-then-is_done-clause-hears : goal.returns-then-is_done-clause-hears
returns-then-is_done-clause-hears g c =
    let rest = rested g.N.Name.script g.N.Name.defs c.args.number (past c.self.inside.core.journal) (past c.step-stepped.new.self.journal) c.self.inside.core.engines c.step-stepped.new.self.engines
    c.in_ok-turned.turned (sym c.is_done.ensures ∙ c.if-is_done.true) c.in_ok-turned.ensures.does in
    hears_same g.N.Name.script (past c.args.self.now.journal) (past c.step-stepped.new.self.journal) _ c.args.self.now.told (tells g.L.Listener.heard g.L.Listener.left c.self.inside.listeners)
    (rest.same ∙ ap (λ (v : GatherState). past v.journal) c.self.view_is) (ap (λ (v : GatherState). v.told) c.self.view_is)

pub invariant_of-self-in_err-tell : goal.invariant_of-self-in_err-tell
invariant_of-self-in_err-tell g c =
    let script = g.N.Name.script in
    let old = past c.self.inside.core.journal in
    let new = past c.step-stepped.new.self.journal in
    let now = tells g.L.Listener.heard g.L.Listener.left c.self.inside.listeners in
    let next = tells g.L.Listener.heard g.L.Listener.left c.tell.new.listeners in
    let did = moved script g.N.Name.defs c.args.number old new c.self.inside.core.engines c.step-stepped.new.self.engines
    c.in_ok-turned.turned (sym c.is_done.ensures ∙ c.if-is_done.false) c.in_ok-turned.ensures.does in
    subst (λ b. HaveHeard b (heard_in script new) g.N.Name.told next) (sym c.tell.ensures.deaf)
    (heard_turn script g.N.Name.defs c.args.number old new c.self.inside.core.engines c.step-stepped.new.self.engines c.telling_goes_on.ensures
    c.in_ok-turned.turned (is_ok c.tell.result) g.N.Name.told now next did (λ e h p. c.tell.ensures.told e h (ap past c.journal.ensures ∙ p))
    (subst (λ b. HaveHeard b (heard_in script old) g.N.Name.told now) c.if-self.false c.self.invariant))

pub invariant_of-self-2 : goal.invariant_of-self-2
invariant_of-self-2 g c =
    let script = g.N.Name.script in
    let old = past c.self.inside.core.journal in
    let new = past c.step-stepped.new.self.journal in
    let now = tells g.L.Listener.heard g.L.Listener.left c.self.inside.listeners in
    let next = tells g.L.Listener.heard g.L.Listener.left c.tell.new.listeners in
    let did = moved script g.N.Name.defs c.args.number old new c.self.inside.core.engines c.step-stepped.new.self.engines
    c.in_ok-turned.turned (sym c.is_done.ensures ∙ c.if-is_done.false) c.in_ok-turned.ensures.does in
    subst (λ b. HaveHeard b (heard_in script new) g.N.Name.told next) (sym c.tell.ensures.deaf)
    (heard_turn script g.N.Name.defs c.args.number old new c.self.inside.core.engines c.step-stepped.new.self.engines c.telling_goes_on.ensures
    c.in_ok-turned.turned (is_ok c.tell.result) g.N.Name.told now next did (λ e h p. c.tell.ensures.told e h (ap past c.journal.ensures ∙ p))
    (subst (λ b. HaveHeard b (heard_in script old) g.N.Name.told now) c.if-self.false c.self.invariant))

pub returns-in_err-tell-clause-hears : goal.returns-in_err-tell-clause-hears
returns-in_err-tell-clause-hears g c =
    let script = g.N.Name.script in
    let defs = g.N.Name.defs in
    let old = past c.args.self.now.journal in
    let new = past c.step-stepped.new.self.journal in
    let now = tells g.L.Listener.heard g.L.Listener.left c.self.inside.listeners in
    let next = tells g.L.Listener.heard g.L.Listener.left c.tell.new.listeners in
    let y = c.step-stepped.new.self.engines in
    let did = moved_at script defs c.args.number (past c.self.inside.core.journal) new c.self.inside.core.engines y old c.args.self.now.engines
    c.in_ok-turned.turned (ap (λ (v : GatherState). past v.journal) c.self.view_is) (ap (λ (v : GatherState). v.engines) c.self.view_is)
    (sym c.is_done.ensures ∙ c.if-is_done.false) c.in_ok-turned.ensures.does in
    let told = hears_turn script defs c.args.number old new c.args.self.now.engines y c.in_ok-turned.turned (is_ok c.tell.result) now next did
    (λ e h p. c.tell.ensures.told e h (ap past c.journal.ensures ∙ p)) in
    subst (λ ts. Hears (plain script old) (plain script new) (is_ok c.from_residual-in_err-tell.result) ts next) (ap (λ (v : GatherState). v.told) c.self.view_is)
    (heard_so (plain script old) (plain script new) (is_ok c.tell.result) (is_ok c.from_residual-in_err-tell.result) now next (ap is_ok c.in_err-tell.was ∙ sym (none_ok c.from_residual-in_err-tell.result c.from_residual-in_err-tell.ensures.0)) told)

pub returns-in_err-tell-clause-unheard : goal.returns-in_err-tell-clause-unheard
returns-in_err-tell-clause-unheard g c =
    let new = past c.step-stepped.new.self.journal in
    let y = c.step-stepped.new.self.engines in
    let old = past c.args.self.now.journal in
    let did = moved_at g.N.Name.script g.N.Name.defs c.args.number (past c.self.inside.core.journal) new c.self.inside.core.engines y old c.args.self.now.engines
    c.in_ok-turned.turned (ap (λ (v : GatherState). past v.journal) c.self.view_is) (ap (λ (v : GatherState). v.engines) c.self.view_is)
    (sym c.is_done.ensures ∙ c.if-is_done.false) c.in_ok-turned.ensures.does in
    let f : c.args.self.now.deaf ≡ false → c.tell.new.deaf ≡ true → HasStepped g.N.Name.script g.N.Name.defs c.args.number old new =
    λ _ _. stepped g.N.Name.script g.N.Name.defs c.args.number old new c.args.self.now.engines y c.in_ok-turned.turned did in
    err_all c.from_residual-in_err-tell.result _ f

pub returns-in_err-tell-clause-stands : goal.returns-in_err-tell-clause-stands
returns-in_err-tell-clause-stands g c =
    let new = past c.step-stepped.new.self.journal in
    let y = c.step-stepped.new.self.engines in
    let old = past c.args.self.now.journal in
    let did = moved_at g.N.Name.script g.N.Name.defs c.args.number (past c.self.inside.core.journal) new c.self.inside.core.engines y old c.args.self.now.engines
    c.in_ok-turned.turned (ap (λ (v : GatherState). past v.journal) c.self.view_is) (ap (λ (v : GatherState). v.engines) c.self.view_is)
    (sym c.is_done.ensures ∙ c.if-is_done.false) c.in_ok-turned.ensures.does in
    err_all c.from_residual-in_err-tell.result _ (goes_one g.N.Name.script g.N.Name.defs c.args.number old new c.args.self.now.engines y c.in_ok-turned.turned did)

pub returns-in_err-tell-clause-asked : goal.returns-in_err-tell-clause-asked
returns-in_err-tell-clause-asked g c =
    let new = past c.step-stepped.new.self.journal in
    let y = c.step-stepped.new.self.engines in
    let f : c.args.self.now.refused ≡ false → IsAskedOnceMore g.N.Name.script g.N.Name.from new y =
    λ e. once_more g.N.Name.script g.N.Name.from new y
    (c.in_ok-turned.ensures.within (first_off c.self.inside.core.refused c.self.inside.deaf (ap (λ (v : GatherState). v.refused) c.self.view_is ∙ e))) in
    err_all c.from_residual-in_err-tell.result _ f

pub returns-clause-did : goal.returns-clause-did
returns-clause-did g c = λ _.
    let new = past c.step-stepped.new.self.journal in
    let y = c.step-stepped.new.self.engines in
    let old = past c.args.self.now.journal in
    let did = moved_at g.N.Name.script g.N.Name.defs c.args.number (past c.self.inside.core.journal) new c.self.inside.core.engines y old c.args.self.now.engines
    c.in_ok-turned.turned (ap (λ (v : GatherState). past v.journal) c.self.view_is) (ap (λ (v : GatherState). v.engines) c.self.view_is)
    (sym c.is_done.ensures ∙ c.if-is_done.false) c.in_ok-turned.ensures.does in
    stepped g.N.Name.script g.N.Name.defs c.args.number old new c.args.self.now.engines y c.in_ok-turned.turned did

pub returns-clause-hears : goal.returns-clause-hears
returns-clause-hears g c =
    let script = g.N.Name.script in
    let defs = g.N.Name.defs in
    let old = past c.args.self.now.journal in
    let new = past c.step-stepped.new.self.journal in
    let now = tells g.L.Listener.heard g.L.Listener.left c.self.inside.listeners in
    let next = tells g.L.Listener.heard g.L.Listener.left c.tell.new.listeners in
    let y = c.step-stepped.new.self.engines in
    let did = moved_at script defs c.args.number (past c.self.inside.core.journal) new c.self.inside.core.engines y old c.args.self.now.engines
    c.in_ok-turned.turned (ap (λ (v : GatherState). past v.journal) c.self.view_is) (ap (λ (v : GatherState). v.engines) c.self.view_is)
    (sym c.is_done.ensures ∙ c.if-is_done.false) c.in_ok-turned.ensures.does in
    let told = hears_turn script defs c.args.number old new c.args.self.now.engines y c.in_ok-turned.turned (is_ok c.tell.result) now next did
    (λ e h p. c.tell.ensures.told e h (ap past c.journal.ensures ∙ p)) in
    subst (λ ts. Hears (plain script old) (plain script new) _ ts next) (ap (λ (v : GatherState). v.told) c.self.view_is)
    (heard_so (plain script old) (plain script new) (is_ok c.tell.result) _ now next (ap is_ok c.in_ok-tell.was) told)
