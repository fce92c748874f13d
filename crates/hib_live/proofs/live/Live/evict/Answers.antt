use Rattle.std.proofs.Common.{is_ok, refl, sym, ap, subst, ◌∙◌}
use Rattle.hib_journal.specs.Kept.{past}
use Rattle.hib_journal.specs.Sessions.{Journal}
use Rattle.hib_listeners.specs.Told.{tells}
use Rattle.hib_core.specs.Factory.{HasGrown}
use Rattle.hib_core.proofs.Hearing.{heard_so, heard_none, heard_same, heard_more, heard_told}
use Rattle.hib_live.specs.Live.{HeardState}
use Rattle.hib_live.proofs.live.Live.evict.Goals as goal
use Rattle.hib_live.proofs.live.Live.evict.Goals.{in-Ok, in-Err}

pub returns-then-self-clause-hears : goal.returns-then-self-clause-hears
returns-then-self-clause-hears g c = let h = past c.args.self.now.journal in heard_none h h _ c.args.self.now.told c.args.self.now.told refl refl

pub invariant_of-self : goal.invariant_of-self
invariant_of-self g c =
    let told = tells g.L.Listener.heard g.L.Listener.left c.self.inside.listeners in
    heard_same c.self.inside.deaf c.self.inside.core.journal c.evict.new.self.journal g.N.Name.told told (c.in_err-evict.ensures.same) c.self.invariant

pub returns-in_err-evict-clause-hears : goal.returns-in_err-evict-clause-hears
returns-in_err-evict-clause-hears g c =
    let told = tells g.L.Listener.heard g.L.Listener.left c.self.inside.listeners in
    heard_none (past c.args.self.now.journal) (past c.evict.new.self.journal) _ c.args.self.now.told told
    ((c.in_err-evict.ensures.same) ∙ ap (λ (v : HeardState). past v.journal) c.self.view_is) (ap (λ (v : HeardState). v.told) c.self.view_is)

pub invariant_of-self-2 : goal.invariant_of-self-2
invariant_of-self-2 g c =
    let now = tells g.L.Listener.heard g.L.Listener.left c.self.inside.listeners in
    let next = tells g.L.Listener.heard g.L.Listener.left c.tell.new.listeners in
    heard_more c.journal.result.now c.self.inside.core.journal c.evict.new.self.journal c.tell.new.deaf c.self.inside.deaf g.N.Name.told now next c.tell.ensures.heard
    c.journal.ensures (c.in_ok-evict.ensures.grown) c.if-self.false c.self.invariant

pub returns-clause-hears : goal.returns-clause-hears
returns-clause-hears g c =
    let now = tells g.L.Listener.heard g.L.Listener.left c.self.inside.listeners in
    let next = tells g.L.Listener.heard g.L.Listener.left c.tell.new.listeners in
    let h = past c.args.self.now.journal in
    let new = past c.evict.new.self.journal in
    let told = heard_told c.journal.result.now c.evict.new.self.journal h (is_ok c.tell.result) c.args.self.now.told now next c.tell.ensures.told c.journal.ensures
    (subst (λ (h : Journal). HasGrown h new) (ap (λ (v : HeardState). past v.journal) c.self.view_is) (c.in_ok-evict.ensures.grown)) (ap (λ (v : HeardState). v.told) c.self.view_is) in
    elim c.match-tell.branch [
      | in-Ok w ↦ heard_so h new (is_ok c.tell.result) (is_ok c.match-tell.result) c.args.self.now.told next (ap is_ok w.in-Ok.is ∙ sym (ap is_ok w.result-is)) told
      | in-Err w ↦ heard_so h new (is_ok c.tell.result) (is_ok c.match-tell.result) c.args.self.now.told next (ap is_ok w.in-Err.is ∙ sym (ap is_ok w.result-is)) told
    ]
