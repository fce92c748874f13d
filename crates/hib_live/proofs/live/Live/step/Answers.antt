use Rattle.std.proofs.Common.{◌≡◌, ◌∷◌, true, length, Ok, is_ok, refl, sym, ap, subst, ◌∙◌, arith}
use Rattle.hib_base.specs.declared.entries.Entry.{Entry}
use Rattle.hib_journal.specs.Kept.{past}
use Rattle.hib_journal.specs.Sessions.{Journal}
use Rattle.hib_journal.specs.Runs.{is_fault}
use Rattle.hib_outside.specs.Causes.{Rose}
use Rattle.hib_listeners.specs.Told.{tells}
use Rattle.hib_engines.specs.Engines.{IsAskedFor}
use Rattle.hib_core.specs.Factory.{HasGrown}
use Rattle.hib_core.proofs.Hearing.{heard_so, heard_none, heard_same, heard_more, heard_told}
use Rattle.hib_live.specs.Live.{HeardState}
use Rattle.hib_live.proofs.live.Live.step.Goals as goal
use Rattle.hib_live.proofs.live.Live.step.Goals.{in-Ok, in-Err}

pub returns-then-self-clause-hears : goal.returns-then-self-clause-hears
returns-then-self-clause-hears g c = let h = past c.args.self.now.journal in heard_none h h _ c.args.self.now.told c.args.self.now.told refl refl

pub invariant_of-self : goal.invariant_of-self
invariant_of-self g c =
    let told = tells g.L.Listener.heard g.L.Listener.left c.self.inside.listeners in
    heard_same c.self.inside.deaf c.self.inside.core.journal c.step.new.self.journal g.N.Name.told told c.in_err-step.ensures.same c.self.invariant

pub returns-in_err-step-clause-hears : goal.returns-in_err-step-clause-hears
returns-in_err-step-clause-hears g c =
    let told = tells g.L.Listener.heard g.L.Listener.left c.self.inside.listeners in
    heard_none (past c.args.self.now.journal) (past c.step.new.self.journal) _ c.args.self.now.told told
    (c.in_err-step.ensures.same ∙ ap (λ (v : HeardState). past v.journal) c.self.view_is) (ap (λ (v : HeardState). v.told) c.self.view_is)

pub invariant_of-self-in-Done : goal.invariant_of-self-in-Done
invariant_of-self-in-Done g c =
    let told = tells g.L.Listener.heard g.L.Listener.left c.self.inside.listeners in
    let over = c.step.ensures.done (c.in_ok-step.was ∙ ap (λ z. Ok z) c.in-Done.is) in
    heard_same c.self.inside.deaf c.self.inside.core.journal c.step.new.self.journal g.N.Name.told told over.same c.self.invariant

pub returns-in-Done-clause-hears : goal.returns-in-Done-clause-hears
returns-in-Done-clause-hears g c =
    let told = tells g.L.Listener.heard g.L.Listener.left c.self.inside.listeners in
    let over = c.step.ensures.done (c.in_ok-step.was ∙ ap (λ z. Ok z) c.in-Done.is) in
    heard_none (past c.args.self.now.journal) (past c.step.new.self.journal) _ c.args.self.now.told told
    (over.same ∙ ap (λ (v : HeardState). past v.journal) c.self.view_is) (ap (λ (v : HeardState). v.told) c.self.view_is)

pub invariant_of-self-in-Did : goal.invariant_of-self-in-Did
invariant_of-self-in-Did g c =
    let now = tells g.L.Listener.heard g.L.Listener.left c.self.inside.listeners in
    let next = tells g.L.Listener.heard g.L.Listener.left c.tell.new.listeners in
    let did = c.step.ensures.did (c.in_ok-step.was ∙ ap (λ z. Ok z) c.in-Did.is) in
    heard_more c.journal.result.now c.self.inside.core.journal c.step.new.self.journal c.tell.new.deaf c.self.inside.deaf g.N.Name.told now next c.tell.ensures.heard
    c.journal.ensures (did.entry, did.grown) c.if-self.false c.self.invariant

pub returns-after-tell-clause-hears : goal.returns-after-tell-clause-hears
returns-after-tell-clause-hears g c =
    let now = tells g.L.Listener.heard g.L.Listener.left c.self.inside.listeners in
    let next = tells g.L.Listener.heard g.L.Listener.left c.tell.new.listeners in
    let h = past c.args.self.now.journal in
    let new = past c.step.new.self.journal in
    let did = c.step.ensures.did (c.in_ok-step.was ∙ ap (λ z. Ok z) c.in-Did.is) in
    let told = heard_told c.journal.result.now c.step.new.self.journal h (is_ok c.tell.result) c.args.self.now.told now next c.tell.ensures.told c.journal.ensures
    (subst (λ (h : Journal). HasGrown h new) (ap (λ (v : HeardState). past v.journal) c.self.view_is) (did.entry, did.grown)) (ap (λ (v : HeardState). v.told) c.self.view_is) in
    elim c.match-tell.branch [
      | in-Ok w ↦ heard_so h new (is_ok c.tell.result) (is_ok c.match-tell.result) c.args.self.now.told next (ap is_ok w.in-Ok.is ∙ sym (ap is_ok w.result-is)) told
      | in-Err w ↦ heard_so h new (is_ok c.tell.result) (is_ok c.match-tell.result) c.args.self.now.told next (ap is_ok w.in-Err.is ∙ sym (ap is_ok w.result-is)) told
    ]

pub returns-in-Done-clause-asks_once : goal.returns-in-Done-clause-asks_once
returns-in-Done-clause-asks_once g c =
    subst (λ (v : HeardState). (e : Entry) → past c.step.new.self.journal ≡ e ∷ past v.journal → IsAskedFor (past v.journal) c.args.number e.act v.engines c.step.new.self.engines) c.self.view_is c.step.ensures.asks_once

pub returns-after-tell-clause-asks_once : goal.returns-after-tell-clause-asks_once
returns-after-tell-clause-asks_once g c =
    subst (λ (v : HeardState). (e : Entry) → past c.step.new.self.journal ≡ e ∷ past v.journal → IsAskedFor (past v.journal) c.args.number e.act v.engines c.step.new.self.engines) c.self.view_is c.step.ensures.asks_once

pub returns-in-Done-clause-fault : goal.returns-in-Done-clause-fault
returns-in-Done-clause-fault g c =
    subst (λ (v : HeardState). (e : Entry) → past c.step.new.self.journal ≡ e ∷ past v.journal → is_fault e.reply ≡ true → Rose v.engines.store.faults c.step.new.self.engines.store.faults) c.self.view_is c.step.ensures.fault

pub returns-after-tell-clause-fault : goal.returns-after-tell-clause-fault
returns-after-tell-clause-fault g c =
    subst (λ (v : HeardState). (e : Entry) → past c.step.new.self.journal ≡ e ∷ past v.journal → is_fault e.reply ≡ true → Rose v.engines.store.faults c.step.new.self.engines.store.faults) c.self.view_is c.step.ensures.fault

pub returns-then-self-clause-fault : goal.returns-then-self-clause-fault
returns-then-self-clause-fault g c e p f = absurd (omega (arith, ap length p))
